-- What the private functions promise one another; no public contract cites it.
use Rattle.std.specs.Prelude.{ℕ, ◌+◌, ◌-◌, ◌*◌, ◌^◌, ◌<◌, ◌≡◌, List, [], ◌∷◌, length}
use Rattle.basics.specs.Bytes.{value_of}
use Rattle.operand.specs.declared.Single.{Single}
use Rattle.operand.specs.Begins.{read_in}
use Rattle.operand.specs.Number.{behind_comma}

pub record Spelt (t : List ℕ) (r : ℕ) : Type 0 where
  pub value : r ≡ value_of t
  pub small : r < 10 ^ length t

-- v, spelt by n digits behind the point, in thousandths
pub record Scaled (v n r : ℕ) : Type 0 where
  pub value : r ≡ v * 10 ^ (3 - n)
  pub small : r < 1000000

-- the number behind a comma that a text begins with, and how far the text is read with the comma in front
unfoldable pub comma_read : List ℕ → ℕ
comma_read [] = 0
comma_read (b ∷ t) = 1 + read_in t

abbrev pub comma_of : List ℕ → Single
comma_of t = record { number = behind_comma t; read = comma_read t }
