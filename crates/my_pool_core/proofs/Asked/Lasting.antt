-- The request of the last age, once it is live, stays live and holds nothing.
use Rattle.std.proofs.Common.{◌≡◌, ℕ, ◌<◌, Bool, true, false, Option, Some, None, refl, sym, ap, ◌∙◌, arith}
use Rattle.std.specs.Prelude.{◌==◌, if◌then◌else◌, find, option_map}
use Rattle.std.proofs.lemmas.Bool.{eqb-true}
use Rattle.my_frame.proofs.Finding.{found-passes}
use Rattle.my_pool_parts.specs.declared.request.Request.{Request}
use Rattle.my_pool_parts.specs.Lists.{how_many}
use Rattle.my_pool_parts.specs.Requests.{last_age, has_age}
use Rattle.my_pool_parts.proofs.Finding.{one, count-found}
use Rattle.my_pool_core.specs.declared.event.PollAnswer.TheVariants.{Closed}
use Rattle.my_pool_core.specs.declared.event.PoolEvent.{PoolEvent}
use Rattle.my_pool_core.specs.declared.event.PoolEvent.TheVariants as events
use Rattle.my_pool_core.specs.State.{State}
use Rattle.my_pool_core.specs.Events.{request_age, poll_request}
use Rattle.my_pool_core.specs.Owners.{Token, Free, token, token_of}
use Rattle.my_pool_core.specs.Sound.{IsSound}
use Rattle.my_pool_core.specs.Steps.{may, step}
use Rattle.my_pool_core.specs.Moves.{token_after, ended_token, polled_token, failed_token}
use Rattle.my_pool_core.proofs.Asked.Tokens.{tokens-move}

ended-last : (p : ℕ) → (last_age == p) ≡ true → ended_token p ≡ Some Free
ended-last p k = ap ended_token (sym (eqb-true last_age p k))

live-last : (s : State) (o : Option Request) → find (has_age last_age) s.requests ≡ o → option_map (λ r. token_of r.standing) o ≡ Some Free → 0 < how_many (has_age last_age) s.requests
live-last s None e at = absurd (cc at)
live-last s (Some r) e at =
    let n = count-found (has_age last_age) (has_age last_age) s.requests r e in
    let k : one (has_age last_age r) ≡ 1 = ap one (found-passes (has_age last_age) s.requests r e) in omega (arith, n, k)

poll-closed : (s : State) (age now : ℕ) → s.closed ≡ true → (poll_request age now s).answer ≡ Closed
poll-closed s age now shut = rw shut refl

pub last-lives : (s : State) (e : PoolEvent) → IsSound s → may s e ≡ true → token last_age s ≡ Some Free → token last_age (step s e) ≡ Some Free
last-lives s e h m at = tokens-move s e last_age h m ∙ go e
  where
    shut : s.closed ≡ true
    shut = h.last_closes (live-last s (find (has_age last_age) s.requests) refl at)

    pick : (b : Bool) (x : Option Token) → (b ≡ true → x ≡ Some Free) → (if b then x else token last_age s) ≡ Some Free
    pick true x f = f refl
    pick false x f = at

    go : (e : PoolEvent) → token_after s e last_age ≡ Some Free
    go events.Request = pick (last_age == request_age s) (Some Free) (λ _. refl)
    go (events.PollRequest p now) = pick (last_age == p) (polled_token p (poll_request p now s).answer) (λ k. ap (polled_token p) (poll-closed s p now shut) ∙ ended-last p k)
    go (events.Cancel p) = pick (last_age == p) (ended_token p) (λ k. ended-last p k)
    go (events.Ready p n) = pick (last_age == p) (ended_token p) (λ k. ended-last p k)
    go (events.Failed p n) = pick (last_age == p) (failed_token p (token p s)) (λ k. ap (failed_token p) (ap (λ a. token a s) (sym (eqb-true last_age p k)) ∙ at) ∙ ended-last p k)
    go (events.GiveBack n) = at
    go (events.Detach n) = at
    go events.TakeReturned = at
    go (events.Decide n facts now) = at
    go (events.Done n ok facts now) = at
    go (events.CheckTtl now) = at
    go events.Close = at
    go events.PollDisconnect = at
