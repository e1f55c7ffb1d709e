-- 01, "How tight the contracts must be": "Each public function's contract determines its result, the controller and every byte of the answer buffer for all inputs ..; that two results allowed by it are equal is itself proved".
use Rattle.std.specs.Prelude.{ℕ, ◌≡◌, List}
use contract.Lifetimes.{Lfts}
use denote.Triple.Clauses.{Lasts, at_exit}
use borrow.Fn.Kinds.{ParamKind, ResultKind, Dens, res_t, ended_of, Out}

-- two results of one call, and what they leave of what was lent
pub record Same {A B : Type 0} (result result' : A) (left left' : B) : Type 0 where
  pub result_is : result ≡ result'
  pub left_is : left ≡ left'

-- of a contract, as the compiler reads it from the source: what a caller learns of the arguments, the result and the parameters at exit
abbrev pub Tight : {n : ℕ} (ps : List (ParamKind n)) (r : ResultKind n) → Out n ps r → Type 0
Tight {n} ps r learnt =
    (κs : Lfts n) (args : Dens κs ps) (result result' : (res_t r κs).Denot) (left left' : Lasts (ended_of n ps r) κs args) →
    learnt κs args result (at_exit (ended_of n ps r) κs args left) → learnt κs args result' (at_exit (ended_of n ps r) κs args left') →
    Same result result' left left'
