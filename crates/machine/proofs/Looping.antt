-- What holds of every place that a run may reach, and of a run that fails for its loops, holds behind g and G.
use Prim.Native.Nat.{ℕ}
use lib.Dec.{ltb, eqb}
use Rattle.std.specs.Prelude.{Err, None, Ok, Option, Result, Some}
use Rattle.command.specs.declared.refusal.Refusal.{Refusal}
use Rattle.basics.proofs.Choice.{by}
use Rattle.command.specs.declared.refusal.Refusal.TheVariants as R
use Rattle.buffer.specs.declared.course.Loops.{Loops}
use Rattle.buffer.specs.declared.course.Course.{Course}
use Rattle.buffer.specs.Course.{mark, pushed, popped, repeated, pass_of, reached, opened_of, closed_by, closed_of}

module _ (P : Result Course Refusal → Type 0) (c : Course) (reaches : (at : ℕ) (l : Loops) → P (Ok (reached at l c))) where
  pub closed_by_lem : (p : Option ℕ) (next : ℕ) → P (Ok (closed_by p next c))
  unfolding closed_by
  closed_by_lem (Some p) next = reaches c.loops.first.start (repeated p c.loops)
  closed_by_lem None next = reaches next (popped c.loops)

  module _ (fails : P (Err R.Loops)) where
    pub behind_open : (next : ℕ) → P (opened_of next c)
    unfolding opened_of
    behind_open next = by P (ltb c.loops.depth 4) (λ h. reaches next (pushed (mark next 0) c.loops)) (λ h. fails)

    pub behind_close : (n next : ℕ) → P (closed_of n next c)
    unfolding closed_of
    behind_close n next = by P (eqb c.loops.depth 0) (λ h. fails) (λ h. closed_by_lem (pass_of n c.loops.first.passes) next)
