-- A test r of the code that failed or held, said of the definition t that it computes.
use mathlib.Core.Bool.{Bool, true, false}
use mathlib.Core.Path.{◌≡◌, sym, ◌∙◌}

pub failed : {r t : Bool} → r ≡ t → r ≡ false → t ≡ false
failed e h = sym e ∙ h

pub held : {r t : Bool} → r ≡ t → r ≡ true → t ≡ true
held e h = sym e ∙ h
