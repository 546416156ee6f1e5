-- Two things that equal a third are equal: why a contract that equates the outcome with a definition determines it.
-- Assumes nothing.
use mathlib.Core.Path.{◌≡◌, ◌∙◌, sym}

pub only_one : {A : Type 0} {x y z : A} → x ≡ z → y ≡ z → x ≡ y
only_one p q = p ∙ sym q
