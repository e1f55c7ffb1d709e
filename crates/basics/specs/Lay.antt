-- Bytes laid into a buffer that the caller lends.
use Rattle.std.specs.Prelude.{ℕ, ◌+◌, ◌≡◌, Bool, List, ◌++◌, leb, length, take, drop, if◌then◌else◌, None, Option, Some}

-- the buffer with xs from a place on: what stands before, xs, and what stands behind
unfoldable pub over : List ℕ → ℕ → List ℕ → List ℕ
over xs at buf = take at buf ++ xs ++ drop (at + length xs) buf

-- whether xs fit into the buffer from a place on
unfoldable pub fits : List ℕ → ℕ → List ℕ → Bool
fits xs at buf = leb (at + length xs) (length buf)

-- the buffer with xs from a place on, or as it was where they don't fit
unfoldable pub laid_in : List ℕ → ℕ → List ℕ → List ℕ
laid_in xs at buf = if fits xs at buf then over xs at buf else buf

-- laying xs into a buffer answers how many bytes they are, or that there is no room; then the buffer stays as it was
pub record Laid (xs : List ℕ) (at : ℕ) (before : List ℕ) (r : Option ℕ) (after : List ℕ) : Type 0 where
  pub said : r ≡ (if fits xs at before then Some (length xs) else None)
  pub left : after ≡ laid_in xs at before
