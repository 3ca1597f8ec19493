-- A pool is sound, and covered while it is open, whatever happens to it.
use Rattle.std.proofs.Common.{◌≡◌, ℕ, ◌≤◌, true, List, [], ◌∷◌, refl, arith}
use Rattle.my_pool_core.specs.declared.event.PoolEvent.{PoolEvent}
use Rattle.my_pool_core.specs.declared.event.PoolEvent.TheVariants.{Request, PollRequest, Cancel, Ready, Failed, GiveBack, Detach, TakeReturned, Decide, Done, CheckTtl, Close, PollDisconnect}
use Rattle.my_pool_core.specs.declared.limits.Limits.{Limits}
use Rattle.my_pool_parts.specs.Requests.{last_age}
use Rattle.my_pool_core.specs.State.{State}
use Rattle.my_pool_core.specs.Events.{new_pool}
use Rattle.my_pool_core.specs.Steps.{may, step, AllMay, after}
use Rattle.my_pool_core.specs.Sound.{IsSound, IsCovered}
use Rattle.my_pool_core.proofs.Kept.Opening.{sound-request, sound-close}
use Rattle.my_pool_core.proofs.Kept.{sound-poll-request, sound-cancel, sound-ready, sound-failed, sound-give-back, sound-detach, sound-take-returned, sound-decide, sound-done, sound-check-ttl}
use Rattle.my_pool_core.proofs.Covering.{covered-request, covered-poll-request, covered-cancel, covered-ready, covered-failed, covered-give-back, covered-detach, covered-take-returned, covered-decide, covered-done, covered-check-ttl}

pub sound-step : (s : State) (event : PoolEvent) → IsSound s → may s event ≡ true → IsSound (step s event)
sound-step s Request h e = sound-request s h
sound-step s (PollRequest age now) h e = sound-poll-request age now s h e
sound-step s (Cancel age) h e = sound-cancel age s h e
sound-step s (Ready age conn) h e = sound-ready age conn s h e
sound-step s (Failed age conn) h e = sound-failed age conn s h e
sound-step s (GiveBack conn) h e = sound-give-back conn s h e
sound-step s (Detach conn) h e = sound-detach conn s h e
sound-step s TakeReturned h e = sound-take-returned s h
sound-step s (Decide conn facts now) h e = sound-decide conn facts now s h e
sound-step s (Done conn ok facts now) h e = sound-done conn ok facts now s h e
sound-step s (CheckTtl now) h e = sound-check-ttl now s h
sound-step s Close h e = sound-close s h
sound-step s PollDisconnect h e = h

pub covered-step : (s : State) (event : PoolEvent) → IsSound s → IsCovered s → may s event ≡ true → IsCovered (step s event)
covered-step s Request h k e = covered-request s k
covered-step s (PollRequest age now) h k e = covered-poll-request age now s h k e
covered-step s (Cancel age) h k e = covered-cancel age s h k e
covered-step s (Ready age conn) h k e = covered-ready age conn s h k e
covered-step s (Failed age conn) h k e = covered-failed age conn s h k e
covered-step s (GiveBack conn) h k e = covered-give-back conn s k e
covered-step s (Detach conn) h k e = covered-detach conn s k e
covered-step s TakeReturned h k e = covered-take-returned s h k
covered-step s (Decide conn facts now) h k e = covered-decide conn facts now s k e
covered-step s (Done conn ok facts now) h k e = covered-done conn ok facts now s k e
covered-step s (CheckTtl now) h k e = covered-check-ttl now s k
covered-step s Close h k e = λ open_ some. absurd (cc)
covered-step s PollDisconnect h k e = k

pub sound-new : (limits : Limits) (first : ℕ) → first ≤ last_age → IsSound (new_pool limits first)
sound-new limits first le = record {
  few = omega arith;
  few_idle = omega arith;
  once = λ n. omega arith;
  numbered = refl;
  rising = tt;
  ages_left = omega arith;
  born = refl;
  made = λ n. refl;
  looked_at = λ n. refl;
  marked = refl;
  numbers_left = omega arith;
  room = omega arith;
  none_waits = λ _. refl;
  settled = λ e. absurd (cc);
  last_closes = λ live. absurd (omega arith);
  last_asks = refl;
}

pub covered-new : (limits : Limits) (first : ℕ) → IsCovered (new_pool limits first)
covered-new limits first open_ some = absurd (omega arith)

pub always : (s : State) (events : List PoolEvent) → IsSound s → IsCovered s → AllMay s events → IsSound (after s events) × IsCovered (after s events)
always s [] h k all = (h, k)
always s (event ∷ events) h k all = always (step s event) events (sound-step s event h all.0) (covered-step s event h k all.0) all.1
