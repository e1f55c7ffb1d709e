-- The second demand of `specs/Demands`, proved: contracts that are met, each of which promises what the next call asks, make agreement over any calls; and so every program that meets them plays every script as the definition does.
use mathlib.Core.Path.{◌≡◌, refl, ap, subst, ◌∙◌}
use mathlib.Core.Bool.{false}
use mathlib.Core.List.{List, [], ◌∷◌, ◌++◌}
use lib.IntN.{pos}
use Rattle.motion.specs.Bodies.{sensing, nothing_sensed}
use Rattle.pipettor.specs.declared.Controller.{Controller}
use Rattle.pipettor.specs.Valid.{Valid}
use Rattle.pipettor.specs.Byte.{After}
use Rattle.demands.specs.Calls.{Making, made, lent, Call, byte, listen, tick, stop, advance, run, said, call_of, answer_of, after_of, answers_of, after, answers}
use Rattle.demands.specs.Promises.{Program, Made, makes, Meets, TakesAll, left_by, answered_by}
use Rattle.demands.specs.Frames.{frame_after}
use Rattle.demands.specs.Demands.{Agrees, Agreement}
use Rattle.demands.specs.Script.{Line, ◌answers◌, ◌ticks◌exact◌, ◌run_uses◌, ◌ticks_with◌ask◌, ◌ticks_at◌reach◌exact◌, last_of, bench, definition, program, calls_of, seen, wrong_in, wrong_of, TakesScript, TakesScripts}
use Rattle.demands.proofs.Examples.{impostors, computed}
use Rattle.demands.proofs.Frames.{a_controller_hears}
use Rattle.demands.proofs.Exchanges.{the_framing_stays, an_agreeing_program_exchanges}
use Rattle.demands.proofs.InHand.{an_agreeing_program_receives}
use Rattle.demands.proofs.Sound.{every_controller_is_sound}

module _ (p : Program) (m : Meets p) where
  call_agrees : (c : Call) (k : Controller) → p.Holds k → p.Takes c → Valid k → makes p c k ≡ record { controller = (call_of c k).next; answer = answer_of c k }
  unfolding makes call_of answer_of
  call_agrees (byte b l) k h t v =
      ap (λ (r : After). record { controller = r.reply.controller; answer = said r.reply.said (lent r.buffer) }) (m.byte k b l h t v).is
  call_agrees (listen bytes) k h t v = rw (m.listen k bytes h t).is
  call_agrees (tick s) k h t v = rw (m.tick k s h t v).is
  call_agrees stop k h t v = rw (m.stop k h t).is
  call_agrees (advance n s) k h t v = rw (m.advance k n s h t v).is
  call_agrees (run n s) k h t v = rw (m.run k n s h t v).is

  -- what a contract promises is enough to call again
  call_again : (c : Call) (k : Controller) → p.Holds k → p.Takes c → Valid k → Valid (makes p c k).controller
  unfolding makes
  call_again (byte b l) k h t v = (m.byte k b l h t v).again
  call_again (listen bytes) k h t v = (m.listen k bytes h t).again v
  call_again (tick s) k h t v = (m.tick k s h t v).again
  call_again stop k h t v = (m.stop k h t).again v
  call_again (advance n s) k h t v = (m.advance k n s h t v).again
  call_again (run n s) k h t v = (m.run k n s h t v).again

  calls_agree : (cs : List Call) (k : Controller) → p.Holds k → TakesAll p cs → Valid k → (left_by p cs k ≡ after_of cs k) × (answered_by p cs k ≡ answers_of cs k) × (p.Holds (after_of cs k)) × Valid (after_of cs k)
  unfolding left_by answered_by after_of answers_of
  calls_agree [] k h t v = (refl, refl, h, v)
  calls_agree (c ∷ cs) k h t v =
      let e = call_agrees c k h t.0 v in
      let same : (makes p c k).controller ≡ (call_of c k).next = ap (λ (r : Made). r.controller) e in
      let (left, back, holds, again) = calls_agree cs (call_of c k).next (subst p.Holds same (m.held c k h t.0 v)) t.1 (subst Valid same (call_again c k h t.0 v)) in
      (rw same left, rw e (ap (◌∷◌ (answer_of c k)) back), holds, again)

every_program_agrees : (p : Program) → Meets p → (a : Making) (calls : List Call) → TakesAll p calls → Agrees p a calls
unfolding after answers
every_program_agrees p m a calls takes =
    let k = (made a).next in
    let fresh = (m.fresh a).is in
    let (left, back, holds, again) = calls_agree p m calls k (subst p.Holds fresh (m.fresh_held a)) takes (subst Valid fresh (m.fresh a).again) in
    record {
      premise = rw (fresh, left) again;
      controller = rw fresh left;
      answered = rw fresh back;
      framing = rw (fresh, left) (m.framing (after_of calls k) holds ∙ the_framing_stays a calls);
      ready = rw (fresh, left) (m.ready (after_of calls k) holds);
    }

pub every_program_that_meets_the_contracts_agrees : Agreement
every_program_that_meets_the_contracts_agrees =
    record {
      every_program_gives_addresses = λ p m n. m.given n;
      every_program_agrees = every_program_agrees;
      frames = λ a calls buf long. a_controller_hears (after a calls) (every_controller_is_sound a calls).sized.frame buf long;
      every_program_exchanges_frames =
          λ p m form a calls ds buf heard good long takes. an_agreeing_program_exchanges form a calls ds buf heard good long p (every_program_agrees p m a (calls ++ frame_after form a calls ds buf) takes);
      every_program_receives = λ p m a calls. an_agreeing_program_receives p a calls (every_program_agrees p m a);
    }

-- scripts
module _ (p : Program) (m : Meets p) where
  placed_alike : (calls : List Call) → TakesAll p calls → (let b = ((program p).left calls).device.core.body in b.plunger ∷ b.exact ∷ []) ≡ (let b = (definition.left calls).device.core.body in b.plunger ∷ b.exact ∷ [])
  placed_alike calls t = ap (λ (k : Controller). k.device.core.body.plunger ∷ k.device.core.body.exact ∷ []) (every_program_agrees p m bench calls t).controller

  seen_alike : (calls : List Call) (l : Line) → TakesAll p (calls ++ calls_of l) → seen (program p) calls l ≡ seen definition calls l
  unfolding seen
  seen_alike calls (◌answers◌ text reply) t = ap last_of (every_program_agrees p m bench (calls ++ calls_of (◌answers◌ text reply)) t).answered
  seen_alike calls (n ticks place exact millionths) t = placed_alike (calls ++ advance n nothing_sensed ∷ []) t
  seen_alike calls (n run_uses count) t = ap last_of (every_program_agrees p m bench (calls ++ run n nothing_sensed ∷ []) t).answered
  seen_alike calls (n ticks_with tip ask asked) t = ap last_of (every_program_agrees p m bench (calls ++ advance n (sensing tip (pos 0)) ∷ []) t).answered
  seen_alike calls (n ticks_at reading reach there exact millionths) t = placed_alike (calls ++ advance n (sensing false reading) ∷ []) t

  wrong_alike : (calls : List Call) (ls : List Line) → TakesScript p calls ls → wrong_in (program p) calls ls ≡ wrong_in definition calls ls
  unfolding wrong_in
  wrong_alike calls [] t = refl
  wrong_alike calls (l ∷ ls) t = rw (seen_alike calls l t.0, wrong_alike (calls ++ calls_of l) ls t.1)

  pub every_program_that_meets_the_contracts_plays_alike : (scripts : List (List Line)) → TakesScripts p scripts → wrong_of (program p) scripts ≡ wrong_of definition scripts
  unfolding wrong_of
  every_program_that_meets_the_contracts_plays_alike [] t = refl
  every_program_that_meets_the_contracts_plays_alike (script ∷ scripts) t =
      rw (wrong_alike [] script t.0, every_program_that_meets_the_contracts_plays_alike scripts t.1)

  -- "These must be shut out": no program that meets the contracts is one of the five
  pub the_impostors_are_shut_out : TakesScripts p impostors → wrong_of (program p) impostors ≡ []
  the_impostors_are_shut_out t = every_program_that_meets_the_contracts_plays_alike impostors t ∙ computed.what_no_impostor_plays
