-- What holds of every command that good numbers make holds of the one that is made, and of the one that is found.
use mathlib.Core.Path.{◌≡◌, refl, ap}
use mathlib.Core.Bool.{Bool, true, false}
use Prim.Native.Nat.{ℕ}
use native.Mathlib.Omega.{arith}
use lib.Dec.{eqb}
use Rattle.std.specs.Prelude.{if◌then◌else◌, Err, None, Ok, Option, Result, Some}
use Rattle.command.specs.declared.Malformed.{Malformed}
use Rattle.command.specs.declared.Malformed.TheVariants.{NoLetter, WrongOperand}
use Rattle.settings.specs.declared.Aspect.{Aspect}
use Rattle.operand.specs.declared.Pair.{Pair}
use Rattle.command.specs.declared.Command.{Command}
use Rattle.command.specs.declared.Command.TheVariants as C
use Rattle.command.specs.Found.{Found}
use Rattle.command.specs.Table.{made, both, in_unit, detail_of, set_by}
use Rattle.command.specs.Command.{placed}

pub wrong_is_not_made : {A : Type 0} (read : ℕ) (c : Command) → Err (WrongOperand read) ≡ Ok c → A
wrong_is_not_made read c e = let z : ◌≡◌ {A = ℕ} 0 1 = cc in absurd (omega arith)

module _ (P : Command → Type 0) (c : Command) (read : ℕ) where
  pub of_made : (f : ℕ → Command) (t : Option ℕ) → ((n : ℕ) → t ≡ Some n → P (f n)) → made read f t ≡ Ok c → P c
  unfolding made
  of_made f (Some n) h e = let s : f n ≡ c = cc in rw s at (h n refl)
  of_made f None h e = wrong_is_not_made read c e

  pub of_both :
      (f : ℕ → ℕ → Command) (t u : Option ℕ) → ((n m : ℕ) → t ≡ Some n → u ≡ Some m → P (f n m)) → both read f t u ≡ Ok c → P c
  unfolding both
  of_both f (Some n) (Some m) h e = let s : f n m ≡ c = cc in rw s at (h n m refl refl)
  of_both f (Some n) None h e = wrong_is_not_made read c e
  of_both f None u h e = wrong_is_not_made read c e

  pub of_unit : (t : Option ℕ) (a b : Result Command Malformed) → (a ≡ Ok c → P c) → (b ≡ Ok c → P c) → in_unit read t a b ≡ Ok c → P c
  unfolding in_unit
  of_unit (Some unit) a b h k e = go (eqb unit 0) e
    where
      go : (x : Bool) → (if x then a else b) ≡ Ok c → P c
      go true q = h q
      go false q = k q
  of_unit None a b h k e = wrong_is_not_made read c e

pub of_row : (P : Command → Type 0) (c : Command) (row : Option Aspect) (p : Pair) → ((a : Aspect) (n : ℕ) → detail_of a p.second ≡ Some n → P (C.Set a n)) → set_by row p ≡ Ok c → P c
unfolding set_by
of_row P c (Some a) p h e = of_made P c p.read (C.Set a) (detail_of a p.second) (h a) e
of_row P c None p h e = wrong_is_not_made p.read c e

-- what is found is one thing
pub same_found : (c d : Command) (n m : ℕ) → ◌≡◌ {A = Found} (Ok (Some (c, n))) (Ok (Some (d, m))) → (c ≡ d) × (n ≡ m)
same_found c d n m e = let p : ◌≡◌ {A = Command × ℕ} (c, n) (d, m) = cc in (ap (λ (x : Command × ℕ). x.0) p, ap (λ (x : Command × ℕ). x.1) p)

pub of_placed : (P : Command → Type 0) (at n : ℕ) (f : Result Command Malformed) (c : Command) (next : ℕ) → ((d : Command) → f ≡ Ok d → P d) → placed at n f ≡ Ok (Some (c, next)) → P c
unfolding placed
of_placed P at n (Ok d) c next h e = rw (same_found d c _ next e).0 at (h d refl)
of_placed P at n (Err NoLetter) c next h e = let z : ◌≡◌ {A = ℕ} 0 1 = cc in absurd (omega arith)
of_placed P at n (Err (WrongOperand read)) c next h e = let z : ◌≡◌ {A = ℕ} 0 1 = cc in absurd (omega arith)
