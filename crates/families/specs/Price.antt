-- Prices: what links cost, how costs are joined, and which of two is not dearer. Assumes nothing.
use Rattle.std.specs.Prelude.{◌≡◌, ℕ, Bool, cond, T, ◌⊎◌}

-- A kind of price. `form` gives a price as two numbers, by which it is written down.
pub record Kind (P : Type 0) : Type 0 where
  pub neutral : P
  pub join : P → P → P
  pub not_dearer : P → P → Bool
  pub form : P → ℕ × ℕ

module _ {P : Type 0} (K : Kind P) where
  -- a is not dearer than b
  abbrev pub NotDearer : P → P → Type 0
  NotDearer a b = T (K.not_dearer a b)

  -- a and b are the same price: their forms are equal
  abbrev pub Same : P → P → Type 0
  Same a b = K.form a ≡ K.form b

  -- the cheaper of two prices: the first, unless it is the dearer
  abbrev pub cheaper : P → P → P
  cheaper a b = cond (K.not_dearer a b) a b

-- What every kind of price keeps. Equal prices are prices of one form.
pub record Rules {P : Type 0} (K : Kind P) : Type 0 where
  -- the order is total and transitive, and two prices each not dearer than the other are equal
  pub total : (a b : P) → NotDearer K a b ⊎ NotDearer K b a
  pub transitive : (a b c : P) → NotDearer K a b → NotDearer K b c → NotDearer K a c
  pub antisymmetric : (a b : P) → NotDearer K a b → NotDearer K b a → Same K a b
  -- equal prices are not dearer than one another
  pub same : (a b : P) → Same K a b → NotDearer K a b
  -- joining is associative and commutative, and the neutral price changes nothing
  pub associative : (a b c : P) → Same K (K.join (K.join a b) c) (K.join a (K.join b c))
  pub commutative : (a b : P) → Same K (K.join a b) (K.join b a)
  pub unchanged : (a : P) → Same K (K.join K.neutral a) a
  -- joining one price to both sides keeps "not dearer"
  pub monotone : (a b c : P) → NotDearer K a b → NotDearer K (K.join c a) (K.join c b)
