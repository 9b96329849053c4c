-- A test of two parts. Assumes nothing.
use Rattle.std.proofs.Common.{Bool, true, false, ◌&&◌, T}

pub both : (a b : Bool) → T a → T b → T (a && b)
both true b p q = q
both false b p q = p

pub left : (a b : Bool) → T (a && b) → T a
left true b t = tt
left false b t = t

pub right : (a b : Bool) → T (a && b) → T b
right true b t = t
right false b t = absurd t
