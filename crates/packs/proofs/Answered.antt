-- What an answer without a fault says of the tests and steps that made it. Assumes nothing.
use Rattle.std.proofs.Common.{◌≡◌, ℕ, Bool, true, false, cond, Some, None, Ok, Err, Option, Result, refl, ap, arith}
use Rattle.lines.specs.Fault.{then}
use Rattle.lines.specs.declared.fault.Fault.{Fault}
use Rattle.packs.specs.Job.{known}

-- a test was passed
pub cond_ok : {X : Type 0} (b : Bool) (r : Result X Fault) (e : Fault) (x : X) → cond b r (Err e) ≡ Ok x → (b ≡ true) × (r ≡ Ok x)
cond_ok true r e x h = (refl, h)
cond_ok false r e x h = (cc, cc)

-- a step had an answer, and the next one too
pub then_ok : {X Y : Type 0} (r : Result X Fault) (f : X → Result Y Fault) (y : Y) → then r f ≡ Ok y → (x : X) × (r ≡ Ok x) × (f x ≡ Ok y)
then_ok (Ok x) f y h = (x, refl, h)
then_ok (Err e) f y h = let z : ◌≡◌ {A = ℕ} 0 1 = cc in absurd (omega arith)

-- a number was known
pub known_ok : {X Y : Type 0} (o : Option X) (e : Fault) (f : X → Result Y Fault) (y : Y) → known o e f ≡ Ok y → (x : X) × (o ≡ Some x) × (f x ≡ Ok y)
known_ok (Some x) e f y h = (x, refl, h)
known_ok None e f y h = let z : ◌≡◌ {A = ℕ} 0 1 = cc in absurd (omega arith)

-- and the way back
pub then_made : {X Y : Type 0} (r : Result X Fault) (f : X → Result Y Fault) (x : X) → r ≡ Ok x → then r f ≡ f x
then_made r f x e = ap (λ s. then s f) e

pub known_made : {X Y : Type 0} (o : Option X) (e : Fault) (f : X → Result Y Fault) (x : X) → o ≡ Some x → known o e f ≡ f x
known_made o e f x h = ap (λ s. known s e f) h

pub same_answer : {X Y : Type 0} (x y : X) → ◌≡◌ {A = Result X Y} (Ok x) (Ok y) → x ≡ y
same_answer x y h = cc
