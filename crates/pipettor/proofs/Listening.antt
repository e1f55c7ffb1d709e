-- Laws of `specs/Listening`: the way through the bytes before one that completes a frame, and what it leaves.
use mathlib.Core.Path.{◌≡◌, refl, sym, ap, ◌∙◌}
use mathlib.Core.Bool.{Bool, true, false}
use mathlib.Core.List.{List, []}
use Prim.Native.Nat.{ℕ, ◌+◌, ◌≤◌, ◌<◌}
use native.Mathlib.Omega.{arith}
use lib.ListN.{length, get_or, drop, drop_of_length-le}
use Rattle.basics.proofs.Lists.{drop_step}
use Rattle.line.specs.declared.Line.{Line}
use Rattle.line.specs.declared.Heard.{Heard}
use Rattle.line.specs.Wire.{hear_of, keep_of, is_whole, Received, hears, feed, before_frame}
use Rattle.pipettor.specs.declared.Controller.{Controller}
use Rattle.pipettor.specs.declared.Taken.{Taken}
use Rattle.pipettor.specs.Listening.{at, UpToFrame, listened_of}

-- on the way: what is left to be heard begins at n
pub record Along (start : Line) (before bytes : List ℕ) (l : Line) (f : List ℕ) (n : ℕ) : Type 0 where
  pub within : n ≤ length bytes
  pub same : feed (at l f) (before_frame l (drop n bytes)) ≡ feed (at start before) (before_frame start bytes)
  pub count : n + length (before_frame l (drop n bytes)) ≡ length (before_frame start bytes)

module _ (start : Line) (before bytes : List ℕ) where
  pub begins : Along start before bytes start before 0
  begins = record { within = omega arith; same = refl; count = omega arith }

  module _ (l : Line) (f : List ℕ) (n : ℕ) (a : Along start before bytes l f n) where
    -- the way ends where nothing is left
    ended : before_frame l (drop n bytes) ≡ [] → UpToFrame start before bytes (record { line = l; n = n }) f
    unfolding feed
    ended e = let c = rw e at a.count in record { receiver = rw e at a.same; count = omega arith }

    pub ends : length bytes ≤ n → UpToFrame start before bytes (record { line = l; n = length bytes }) f
    unfolding before_frame
    ends h = let e : n ≡ length bytes = omega (arith, a.within) in rw (← e) (ended (rw (drop_of_length-le bytes h)))

    module _ (h : n < length bytes) (heard : Heard Line) (e : heard ≡ hear_of l (get_or bytes n 0)) (t : Bool) (q : t ≡ is_whole heard.deed) where
      whole : is_whole (hear_of l (get_or bytes n 0)).deed ≡ t
      whole = sym (q ∙ ap (λ (x : Heard Line). is_whole x.deed) e)

      pub at_a_frame : t ≡ true → UpToFrame start before bytes (record { line = l; n = n }) f
      unfolding before_frame
      at_a_frame y = ended (rw (drop_step bytes n h, whole, y))

      pub goes_on : (g : List ℕ) → t ≡ false → g ≡ keep_of f heard.deed (get_or bytes n 0) → Along start before bytes heard.line g (n + 1)
      unfolding before_frame feed hears
      goes_on g y k =
          let c = rw (drop_step bytes n h, whole, y) at a.count in
          record {
            within = omega arith;
            same = rw (k, e) (rw (drop_step bytes n h, whole, y) at a.same);
            count = rw e (omega arith);
          }

pub is_listened :
    (k : Controller) (bytes : List ℕ) (t : Taken) (f : List ℕ) → UpToFrame k.line k.frame bytes t f →
    record { controller = record { address = k.address; line = t.line; frame = f; device = k.device }; n = t.n } ≡ listened_of k bytes
unfolding listened_of
is_listened k bytes t f u =
    rw (ap (λ (r : Received). r.line) u.receiver, ap (λ (r : Received). r.frame) u.receiver, u.count)
