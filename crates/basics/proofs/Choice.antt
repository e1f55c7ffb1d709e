-- What an arm of a match shows, and what a test shows.
use mathlib.Core.Path.{◌≡◌, refl}
use mathlib.Core.Bool.{Bool, true, false}
use Rattle.std.specs.Prelude.{if◌then◌else◌}

-- what is right for the case at hand is right for what is that case
pub row : {A B : Type 0} (f : A → B) (k j : A) (r : B) → k ≡ j → r ≡ f j → r ≡ f k
row f k j r p e = rw p e

-- a choice is its first way where the test holds, and its second where not
pub chosen : {A : Type 0} (t : Bool) (r a b : A) → t ≡ true → r ≡ a → r ≡ (if t then a else b)
chosen t r a b h e = rw h e

pub passed : {A : Type 0} (t : Bool) (r a b : A) → t ≡ false → r ≡ b → r ≡ (if t then a else b)
passed t r a b h e = rw h e

-- what holds of both ways holds of the choice; each way may use what its test shows
pub by : {A : Type 0} (P : A → Type 0) (t : Bool) {a b : A} → (t ≡ true → P a) → (t ≡ false → P b) → P (if t then a else b)
by P true f g = f refl
by P false f g = g refl
