-- Reckoning with prices: `Leq` and `Eqv` hold `NotDearer` one way and both ways, as records, so that antt finds the prices. Assumes nothing.
use Rattle.std.proofs.Common.{◌≡◌, Bool, true, false, cond, T, ◌⊎◌, sym, refl, ap, inl, inr}
use Rattle.families.specs.Price.{Kind, Rules, NotDearer, Same, cheaper}

pub record Leq {P : Type 0} (K : Kind P) (a b : P) : Type 0 where
  pub le : NotDearer K a b

pub record Eqv {P : Type 0} (K : Kind P) (a b : P) : Type 0 where
  pub to : Leq K a b
  pub from : Leq K b a

module _ {P : Type 0} {K : Kind P} (rules : Rules K) where
  pub le_tr : {a b c : P} → Leq K a b → Leq K b c → Leq K a c
  le_tr {a} {b} {c} p q = record { le = rules.transitive a b c p.le q.le }

  pub from_same : (a b : P) → Same K a b → Eqv K a b
  from_same a b s = record { to = record { le = rules.same a b s }; from = record { le = rules.same b a (sym s) } }

  pub to_same : {a b : P} → Eqv K a b → Same K a b
  to_same {a} {b} e = rules.antisymmetric a b e.to.le e.from.le

  pub rfl : (a : P) → Eqv K a a
  rfl a = from_same a a refl

  pub is : {a b : P} → a ≡ b → Eqv K a b
  is {a} {b} e = from_same a b (ap K.form e)

  pub le_rfl : (a : P) → Leq K a a
  le_rfl a = (rfl a).to

  pub sy : {a b : P} → Eqv K a b → Eqv K b a
  sy e = record { to = e.from; from = e.to }

  pub tr : {a b c : P} → Eqv K a b → Eqv K b c → Eqv K a c
  tr p q = record { to = le_tr p.to q.to; from = le_tr q.from p.from }

  pub comm : (a b : P) → Eqv K (K.join a b) (K.join b a)
  comm a b = from_same (K.join a b) (K.join b a) (rules.commutative a b)

  pub assoc : (a b c : P) → Eqv K (K.join (K.join a b) c) (K.join a (K.join b c))
  assoc a b c = from_same (K.join (K.join a b) c) (K.join a (K.join b c)) (rules.associative a b c)

  pub unit_l : (a : P) → Eqv K (K.join K.neutral a) a
  unit_l a = from_same (K.join K.neutral a) a (rules.unchanged a)

  pub unit_r : (a : P) → Eqv K (K.join a K.neutral) a
  unit_r a = tr (comm a K.neutral) (unit_l a)

  pub le_right : {a b : P} (c : P) → Leq K a b → Leq K (K.join c a) (K.join c b)
  le_right {a} {b} c p = record { le = rules.monotone a b c p.le }

  pub le_join : {a b c d : P} → Leq K a b → Leq K c d → Leq K (K.join a c) (K.join b d)
  le_join {a} {b} {c} {d} p q =
      le_tr (le_right a q) (le_tr (comm a d).to (le_tr (le_right d p) (comm d b).to))

  pub join : {a b c d : P} → Eqv K a b → Eqv K c d → Eqv K (K.join a c) (K.join b d)
  join p q = record { to = le_join p.to q.to; from = le_join p.from q.from }

  pub left_comm : (a b c : P) → Eqv K (K.join a (K.join b c)) (K.join b (K.join a c))
  left_comm a b c = tr (sy (assoc a b c)) (tr (join (comm a b) (rfl c)) (assoc b a c))

  -- the two ways to put four prices together
  pub swap : (a b c d : P) → Eqv K (K.join (K.join a b) (K.join c d)) (K.join (K.join a c) (K.join b d))
  swap a b c d = tr (assoc a b (K.join c d)) (tr (join (rfl a) (left_comm b c d)) (sy (assoc a c (K.join b d))))

  pub pull : (p x s y : P) → Eqv K (K.join (K.join p x) (K.join s y)) (K.join (K.join p s) (K.join x y))
  pull p x s y = swap p x s y

  cheaper_cases : (a b : P) (t : Bool) → (T t → Leq K a b) → ((T t → ⊥) → Leq K b a) → Leq K (cond t a b) a × Leq K (cond t a b) b
  cheaper_cases a b true p q = (le_rfl a, p tt)
  cheaper_cases a b false p q = (q (λ x. x), le_rfl b)

  pub cheaper_le : (a b : P) → Leq K (cheaper K a b) a × Leq K (cheaper K a b) b
  cheaper_le a b = cheaper_cases a b (K.not_dearer a b) (λ t. record { le = t }) (λ f. other f (rules.total a b))
    where
      other : (T (K.not_dearer a b) → ⊥) → NotDearer K a b ⊎ NotDearer K b a → Leq K b a
      other f (inl x) = absurd (f x)
      other f (inr y) = record { le = y }
