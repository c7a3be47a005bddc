-- Results whose value is seen through a function.
use Rattle.std.specs.Prelude.{Ok, Err, Result}

abbrev pub on_ok : {X Y E : Type 0} → (X → Y) → Result X E → Result Y E
on_ok f (Ok x) = Ok (f x)
on_ok f (Err e) = Err e
