-- One more event after a list of events, and a replay of a list.
use Rattle.std.proofs.Common.{◌≡◌, ℕ, ◌+◌, ◌<◌, ◌≤◌, true, false, List, [], ◌∷◌, ◌++◌, length, drop, get_or, refl, sym, ap, subst, ◌∙◌, add-one, drop-cons}
use Rattle.std.proofs.lemmas.Bool.{false≢true}
use Rattle.std.proofs.lemmas.List.{drop_all}
use Rattle.my_pool_core.specs.declared.event.PoolEvent.{PoolEvent}
use Rattle.my_pool_core.specs.declared.event.PoolEvent.TheVariants.{Request}
use Rattle.my_pool_core.specs.State.{State}
use Rattle.my_pool_core.specs.Steps.{may, step, answer, AllMay, after, answers}

pub after-more : (s : State) (es : List PoolEvent) (e : PoolEvent) → after s (es ++ e ∷ []) ≡ step (after s es) e
after-more s [] e = refl
after-more s (x ∷ es) e = after-more (step s x) es e

pub may-more : (s : State) (es : List PoolEvent) (e : PoolEvent) → AllMay s es → may (after s es) e ≡ true → AllMay s (es ++ e ∷ [])
may-more s [] e all m = (m, tt)
may-more s (x ∷ es) e all m = (all.0, may-more (step s x) es e all.1 m)

pub answers-more : (s : State) (es : List PoolEvent) (e : PoolEvent) → answers s (es ++ e ∷ []) ≡ answers s es ++ answer (after s es) e ∷ []
answers-more s [] e = refl
answers-more s (x ∷ es) e = ap (λ rest. answer s x ∷ rest) (answers-more (step s x) es e)

-- a pool at which a replay has come, and the events that are left
pub record IsReplaying (start now : State) (all left : List PoolEvent) : Type 0 where
  pub state : after now left ≡ after start all
  pub allowed : AllMay now left → AllMay start all
  pub needed : AllMay start all → AllMay now left

pub replay-begins : (start : State) (all : List PoolEvent) → IsReplaying start start all all
replay-begins start all = record { state = refl; allowed = λ m. m; needed = λ m. m }

pub replay-goes : (start now : State) (all left : List PoolEvent) (e : PoolEvent) → IsReplaying start now all (e ∷ left) → may now e ≡ true → IsReplaying start (step now e) all left
replay-goes start now all left e r m = record {
  state = r.state;
  allowed = λ rest. r.allowed (m, rest);
  needed = λ all. (r.needed all).1;
}

-- the event at an index is the first of those that are left
from-here : (all : List PoolEvent) (i : ℕ) → i < length all → drop i all ≡ get_or all i Request ∷ drop (i + 1) all
from-here all i within = drop-cons all i Request within ∙ ap (λ k. get_or all i Request ∷ drop k all) (sym (add-one i))

-- it happens
pub replay-on : (start now later : State) (all : List PoolEvent) (i : ℕ) → i < length all → IsReplaying start now all (drop i all) → may now (get_or all i Request) ≡ true → later ≡ step now (get_or all i Request) → IsReplaying start later all (drop (i + 1) all)
replay-on start now later all i within r m is =
    let here = subst (λ left. IsReplaying start now all left) (from-here all i within) r in
    subst (λ s. IsReplaying start s all (drop (i + 1) all)) (sym is) (replay-goes start now all (drop (i + 1) all) (get_or all i Request) here m)

-- it may not happen
pub replay-stops : (start now : State) (all : List PoolEvent) (i : ℕ) → i < length all → IsReplaying start now all (drop i all) → may now (get_or all i Request) ≡ false → AllMay start all → ⊥
replay-stops start now all i within r m each = false≢true (sym m ∙ (subst (λ left. AllMay now left) (from-here all i within) (r.needed each)).0)

-- none is left
pub replay-is : (start now : State) (all : List PoolEvent) (i : ℕ) → length all ≤ i → IsReplaying start now all (drop i all) → now ≡ after start all
replay-is start now all i past r = subst (λ left. after now left ≡ after start all) (drop_all i all past) r.state

pub replay-may : (start now : State) (all : List PoolEvent) (i : ℕ) → length all ≤ i → IsReplaying start now all (drop i all) → AllMay start all
replay-may start now all i past r = r.allowed (subst (λ left. AllMay now left) (sym (drop_all i all past)) tt)
