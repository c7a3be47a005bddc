use Rattle.std.proofs.Common.{refl}
use Rattle.std.specs.Fmt.{digits}
use Rattle.designs.specs.Grids.{no_links}
use Rattle.sessions.proofs.worked.worked_values_stand.Goals as goal

pub returns-clause-lines : goal.returns-clause-lines
unfolding digits no_links
returns-clause-lines c = record { written_1 = refl; written_2 = refl; refusal = refl; opened = refl; row = refl; open_report = refl; done_report = refl; design = refl; since = refl }
