-- How the plans of links that are still to be dialed stay.
use Rattle.std.proofs.Common.{ℕ, ◌≡◌, ◌≢◌, ◌+◌, ◌<◌, ◌≤◌, zero, suc, List, [], ◌∷◌, ◌++◌, length, get_or, slice_set, Option, refl, sym, ap, ◌∙◌, subst, arith}
use Rattle.my_link.specs.Looks.{Looks}
use Rattle.my_link.specs.declared.dialer.DialItem.{DialItem}
use Rattle.my_link.specs.World.{Plans, SameAt, SameBut, SameFrom, SameLink}
use Rattle.my_steps.specs.declared.slot.Slot.{Slot}
use Rattle.my_steps.specs.declared.slot.Slot.TheVariants.{Gone, Held, Connecting, There, Gathering, Ended}
use Rattle.my_steps.specs.Dialing.{is_dialing}
use Rattle.my_steps.specs.Handle.{at_number, put_at}
use Rattle.my_steps.specs.Keeps.{IsAwaited, AreAwaited}
use Rattle.my_steps.specs.Slot.{HasLink, handle_with, handle_of, handles_from}

pub link_trans : (a b c : Plans) (n : ℕ) → SameLink a b n → SameLink b c n → SameLink a c n
link_trans a b c n f g = record { reads = g.reads ∙ f.reads; writes = g.writes ∙ f.writes }

pub at_trans : (a b c : Plans) (n : ℕ) → SameAt a b n → SameAt b c n → SameAt a c n
at_trans a b c n f g = record { reads = g.reads ∙ f.reads; writes = g.writes ∙ f.writes; dials = g.dials ∙ f.dials }

pub link_at : (a b : Plans) (n : ℕ) → SameAt a b n → SameLink a b n
link_at a b n f = record { reads = f.reads; writes = f.writes }

pub at_sym : (a b : Plans) (n : ℕ) → SameAt a b n → SameAt b a n
at_sym a b n f = record { reads = sym f.reads; writes = sym f.writes; dials = sym f.dials }

-- at one number
pub awaited_on : {L : Type 0} (plans before later : Plans) (n : ℕ) (s : Slot L) → SameLink plans before n → IsAwaited before later n s → IsAwaited plans later n s
awaited_on plans before later n Gone same w = tt
awaited_on plans before later n Held same w = link_trans plans before later n same w
awaited_on plans before later n (Connecting c) same w = tt
awaited_on plans before later n (There c) same w = tt
awaited_on plans before later n (Gathering c rows) same w = tt
awaited_on plans before later n (Ended t l) same w = tt

awaited_still : {L : Type 0} (plans before later : Plans) (n : ℕ) (s : Slot L) → SameAt before later n → IsAwaited plans before n s → IsAwaited plans later n s
awaited_still plans before later n Gone same w = tt
awaited_still plans before later n Held same w = link_trans plans before later n w (link_at before later n same)
awaited_still plans before later n (Connecting c) same w = tt
awaited_still plans before later n (There c) same w = tt
awaited_still plans before later n (Gathering c rows) same w = tt
awaited_still plans before later n (Ended t l) same w = tt

pub linked_awaited : {L : Type 0} (plans now : Plans) (n : ℕ) (s : Slot L) → HasLink s → IsAwaited plans now n s
linked_awaited plans now n Gone w = absurd w
linked_awaited plans now n Held w = absurd w
linked_awaited plans now n (Connecting c) w = tt
linked_awaited plans now n (There c) w = tt
linked_awaited plans now n (Gathering c rows) w = tt
linked_awaited plans now n (Ended t l) w = tt

pub linked_handle : {L : Type 0} (look : L → Looks) (left : Option (List DialItem)) (s : Slot L) → HasLink s → handle_of look s ≡ handle_with look left s
linked_handle look left Gone w = absurd w
linked_handle look left Held w = absurd w
linked_handle look left (Connecting c) w = refl
linked_handle look left (There c) w = refl
linked_handle look left (Gathering c rows) w = refl
linked_handle look left (Ended t l) w = refl

pub dialing_same : {L : Type 0} (look : L → Looks) (left : Option (List DialItem)) (s : Slot L) → is_dialing (handle_with look left s) ≡ is_dialing (handle_of look s)
dialing_same look left Gone = refl
dialing_same look left Held = refl
dialing_same look left (Connecting c) = refl
dialing_same look left (There c) = refl
dialing_same look left (Gathering c rows) = refl
dialing_same look left (Ended t l) = refl

-- from a number on
pub awaited_from : {L : Type 0} (plans before later : Plans) (k : ℕ) (ss : List (Slot L)) → ((m : ℕ) → k ≤ m → SameAt before later m) → AreAwaited plans before k ss → AreAwaited plans later k ss
awaited_from plans before later k [] same w = λ m le. at_trans plans before later m (w m le) (same m le)
awaited_from plans before later k (s ∷ ss) same w = (awaited_still plans before later k s (same k (omega arith)) w.0, awaited_from plans before later (suc k) ss (λ m le. same m (omega (arith, le))) w.1)

-- of those that no step took yet
pub awaited_end : {L : Type 0} (plans now : Plans) (k n : ℕ) (ss : List (Slot L)) → n ≡ k + length ss → AreAwaited plans now k ss → SameFrom n plans now
awaited_end plans now k n [] e w = λ m le. w m (omega (arith, e, le))
awaited_end plans now k n (s ∷ ss) e w = awaited_end plans now (suc k) n ss (omega (arith, e)) w.1

pub awaited_got : {L : Type 0} (plans now : Plans) (k n m : ℕ) (ss : List (Slot L)) (d : Slot L) → m ≡ k + n → n < length ss → AreAwaited plans now k ss → IsAwaited plans now m (get_or ss n d)
awaited_got plans now k n m [] d e h w = absurd (omega (arith, h))
awaited_got plans now k zero m (s ∷ ss) d e h w = let at : k ≡ m = omega (arith, e) in subst (λ i. IsAwaited plans now i s) at w.0
awaited_got plans now k (suc n) m (s ∷ ss) d e h w = awaited_got plans now (suc k) n m ss d (omega (arith, e)) (omega (arith, h)) w.1

pub awaited_set : {L : Type 0} (plans before later : Plans) (k n m : ℕ) (ss : List (Slot L)) (y : Slot L) → m ≡ k + n → n < length ss → SameBut m before later → IsAwaited plans later m y → AreAwaited plans before k ss → AreAwaited plans later k (slice_set ss n y)
awaited_set plans before later k n m [] y e h same v w = absurd (omega (arith, h))
awaited_set plans before later k zero m (s ∷ ss) y e h same v w =
    let at : m ≡ k = omega (arith, e) in
    (subst (λ i. IsAwaited plans later i y) at v, awaited_from plans before later (suc k) ss (λ i le. same i (λ is. absurd (omega (arith, le, is, e)))) w.1)
awaited_set plans before later k (suc n) m (s ∷ ss) y e h same v w = (awaited_still plans before later k s (same k (λ is. absurd (omega (arith, is, e)))) w.0, awaited_set plans before later (suc k) n m ss y (omega (arith, e)) (omega (arith, h)) same v w.1)

pub awaited_push : {L : Type 0} (plans before later : Plans) (k m : ℕ) (ss : List (Slot L)) (y : Slot L) → m ≡ k + length ss → SameBut m before later → IsAwaited plans later m y → AreAwaited plans before k ss → AreAwaited plans later k (ss ++ y ∷ [])
awaited_push plans before later k m [] y e same v w =
    let at : m ≡ k = omega (arith, e) in
    (subst (λ i. IsAwaited plans later i y) at v, λ i le. at_trans plans before later i (w i (omega (arith, le))) (same i (λ is. absurd (omega (arith, le, is, e)))))
awaited_push plans before later k m (s ∷ ss) y e same v w = (awaited_still plans before later k s (same k (λ is. absurd (omega (arith, is, e)))) w.0, awaited_push plans before later (suc k) m ss y (omega (arith, e)) same v w.1)

-- the handles
pub handles_length : {L : Type 0} (look : L → Looks) (left : ℕ → Option (List DialItem)) (k : ℕ) (ss : List (Slot L)) → length (handles_from look left k ss) ≡ length ss
handles_length look left k [] = refl
handles_length look left k (s ∷ ss) = ap suc (handles_length look left (suc k) ss)

pub handles_same : {L : Type 0} (look : L → Looks) (before later : ℕ → Option (List DialItem)) (k : ℕ) (ss : List (Slot L)) → ((m : ℕ) → k ≤ m → later m ≡ before m) → handles_from look later k ss ≡ handles_from look before k ss
handles_same look before later k [] same = refl
handles_same look before later k (s ∷ ss) same = ap (λ l. handle_with look l s ∷ handles_from look later (suc k) ss) (same k (omega arith)) ∙ ap (λ hs. handle_with look (before k) s ∷ hs) (handles_same look before later (suc k) ss (λ m le. same m (omega (arith, le))))

pub handles_got : {L : Type 0} (look : L → Looks) (left : ℕ → Option (List DialItem)) (k n m : ℕ) (ss : List (Slot L)) (d : Slot L) → m ≡ k + n → n < length ss → at_number (handles_from look left k ss) n ≡ handle_with look (left m) (get_or ss n d)
handles_got look left k n m [] d e h = absurd (omega (arith, h))
handles_got look left k zero m (s ∷ ss) d e h = let at : k ≡ m = omega (arith, e) in ap (λ i. handle_with look (left i) s) at
handles_got look left k (suc n) m (s ∷ ss) d e h = handles_got look left (suc k) n m ss d (omega (arith, e)) (omega (arith, h))

pub handles_set : {L : Type 0} (look : L → Looks) (before later : ℕ → Option (List DialItem)) (k n m : ℕ) (ss : List (Slot L)) (y : Slot L) → m ≡ k + n → ((i : ℕ) → i ≢ m → later i ≡ before i) → handles_from look later k (slice_set ss n y) ≡ put_at n (handle_with look (later m) y) (handles_from look before k ss)
handles_set look before later k n m [] y e same = refl
handles_set look before later k zero m (s ∷ ss) y e same =
    let at : k ≡ m = omega (arith, e) in
    ap (λ i. handle_with look (later i) y ∷ handles_from look later (suc k) ss) at ∙ ap (λ hs. handle_with look (later m) y ∷ hs) (handles_same look before later (suc k) ss (λ i le. same i (λ is. absurd (omega (arith, le, is, e)))))
handles_set look before later k (suc n) m (s ∷ ss) y e same = ap (λ l. handle_with look l s ∷ handles_from look later (suc k) (slice_set ss n y)) (same k (λ is. absurd (omega (arith, is, e)))) ∙ ap (λ hs. handle_with look (before k) s ∷ hs) (handles_set look before later (suc k) n m ss y (omega (arith, e)) same)

pub handles_push : {L : Type 0} (look : L → Looks) (before later : ℕ → Option (List DialItem)) (k m : ℕ) (ss : List (Slot L)) (y : Slot L) → m ≡ k + length ss → ((i : ℕ) → i ≢ m → later i ≡ before i) → handles_from look later k (ss ++ y ∷ []) ≡ handles_from look before k ss ++ handle_with look (later m) y ∷ []
handles_push look before later k m [] y e same = let at : k ≡ m = omega (arith, e) in ap (λ i. handle_with look (later i) y ∷ []) at
handles_push look before later k m (s ∷ ss) y e same = ap (λ l. handle_with look l s ∷ handles_from look later (suc k) (ss ++ y ∷ [])) (same k (λ is. absurd (omega (arith, is, e)))) ∙ ap (λ hs. handle_with look (before k) s ∷ hs) (handles_push look before later (suc k) m ss y (omega (arith, e)) same)
