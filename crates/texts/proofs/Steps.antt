-- What an answer without an error says of the steps and tests that made it. Assumes nothing.
use Rattle.std.proofs.Common.{◌≡◌, ℕ, Bool, true, false, cond, Some, None, Ok, Err, Option, Result, refl, ap, arith}
use Rattle.std.specs.Prelude.{ok_or, option_map, option_and_then}
use Rattle.texts.specs.Error.{onward, at_line}
use Rattle.texts.specs.declared.error.Expected.{Expected}

-- a step had a value, and the next one too
pub onward_ok : {X Y E : Type 0} (r : Result X E) (f : X → Result Y E) (y : Y) → onward r f ≡ Ok y → (x : X) × (r ≡ Ok x) × (f x ≡ Ok y)
onward_ok (Ok x) f y h = (x, refl, h)
onward_ok (Err e) f y h = let z : ◌≡◌ {A = ℕ} 0 1 = cc in absurd (omega arith)

pub at_line_ok : {X : Type 0} (n : ℕ) (r : Result X Expected) (x : X) → at_line n r ≡ Ok x → r ≡ Ok x
at_line_ok n (Ok y) x h = let e : y ≡ x = cc in ap Ok e
at_line_ok n (Err e) x h = cc

-- a value was there
pub ok_or_ok : {X E : Type 0} (o : Option X) (e : E) (x : X) → ok_or o e ≡ Ok x → o ≡ Some x
ok_or_ok (Some y) e x h = cc
ok_or_ok None e x h = cc

pub mapped : {X Y : Type 0} (f : X → Y) (o : Option X) (y : Y) → option_map f o ≡ Some y → (x : X) × (o ≡ Some x) × (f x ≡ y)
mapped f (Some x) y h = (x, refl, (cc))
mapped f None y h = let z : ◌≡◌ {A = ℕ} 0 1 = cc in absurd (omega arith)

pub chained : {X Y : Type 0} (f : X → Option Y) (o : Option X) (y : Y) → option_and_then f o ≡ Some y → (x : X) × (o ≡ Some x) × (f x ≡ Some y)
chained f (Some x) y h = (x, refl, h)
chained f None y h = let z : ◌≡◌ {A = ℕ} 0 1 = cc in absurd (omega arith)

-- one of two was chosen
pub either : {A P : Type 0} (b : Bool) (x y z : A) → cond b x y ≡ z → (x ≡ z → P) → (y ≡ z → P) → P
either true x y z e f g = f e
either false x y z e f g = g e

-- a test was passed
pub passed : {X E : Type 0} (b : Bool) (r : Result X E) (e : E) (x : X) → cond b r (Err e) ≡ Ok x → (b ≡ true) × (r ≡ Ok x)
passed true r e x h = (refl, h)
passed false r e x h = (cc, cc)

pub not_failed : {X E : Type 0} (b : Bool) (r : Result X E) (e : E) (x : X) → cond b (Err e) r ≡ Ok x → (b ≡ false) × (r ≡ Ok x)
not_failed true r e x h = (cc, cc)
not_failed false r e x h = (refl, h)

pub kept : {X : Type 0} (b : Bool) (x y : X) → cond b (Some x) None ≡ Some y → (b ≡ true) × (x ≡ y)
kept true x y h = (refl, (cc))
kept false x y h = (cc, cc)

pub same : {X E : Type 0} (x y : X) → ◌≡◌ {A = Result X E} (Ok x) (Ok y) → x ≡ y
same x y h = cc
