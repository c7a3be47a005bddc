use Rattle.std.proofs.Common.{◌+◌, take, set, ap, ◌∙◌, length-take-le, arith}
use Rattle.partials.proofs.Inserting.{put_in}
use Rattle.partials.proofs.names.Names.insert.Goals as goal

pub returns : goal.returns
returns g c =
    let n = c.args.self.now.count in
    let xs = c.args.self.now.names in
    let all = length-take-le n xs (omega (arith, c.args.self.now.few, c.args.self.now.whole)) in
    ap (λ ys. take (n + 1) (set ys c.args.place c.args.switch)) c.copy_within.ensures.after
    ∙ put_in xs c.args.place n c.args.switch (omega (arith, c.requires.place)) (omega (arith, c.requires.room, c.args.self.now.whole))
