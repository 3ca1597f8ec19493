-- Tapes and links, one after another.
use Rattle.std.proofs.Common.{ℕ, ◌≡◌, ◌<◌, suc, List, [], ◌∷◌, ◌++◌, length, map, get_or, reverse, sym, ap, ◌∙◌, Option, Some, None, option_map, refl, subst, arith}
use Rattle.std.specs.List.{remove}
use Rattle.std.proofs.lemmas.List.{append-nil, append_assoc, map-append, reverse-append}
use Rattle.my_steps.specs.declared.slot.Slot.{Slot}
use Rattle.my_client.specs.declared.tape.DoneCall.{DoneCall}
use Rattle.my_value.specs.RowParts.{RowParts}
use Rattle.my_client.specs.Conn.{kept_in}
use Rattle.my_client.specs.Kept.{Asked, Kept}
use Rattle.my_script.specs.declared.transcript.Tape.{Tape}
use Rattle.my_script.specs.declared.transcript.TapeCall.{TapeCall}
use Rattle.my_link.specs.declared.dialer.DialItem.{DialItem}
use Rattle.my_steps.specs.declared.slot.Slot.TheVariants.{Gone, Held, Connecting, There, Gathering, Ended}
use Rattle.my_steps.specs.Slot.{Parts, asked_with, handle_of, handle_with, handles_from, kept_of, kept_some, parts_of, with_rows}
use Rattle.my_link.specs.Looks.{Looks}
use Rattle.my_steps.specs.Handle.{Handle}
use Rattle.my_link.specs.World.{Back}
use Rattle.my_run.specs.Stopped.{HandedBack, one_link}
use Rattle.my_run.specs.Tapes.{TapeView, all_in, links_at, open_call, tape_at, tape_call, tape_of, tape_view, with_links}

-- a call goes from the calls to the tape, which is in reverse order
pub call_on : (calls rest : List DoneCall) (call : DoneCall) (tape more all : List TapeCall) (t : TapeCall) → calls ≡ rest ++ call ∷ [] → t ≡ tape_call call → more ≡ tape ++ t ∷ [] → map tape_call calls ++ reverse tape ≡ all → map tape_call rest ++ reverse more ≡ all
call_on calls rest call tape more all t e f g i =
    ap (λ ts. map tape_call rest ++ reverse ts) g ∙ ap (λ ts. map tape_call rest ++ ts) (reverse-append tape (t ∷ []))
    ∙ ap (λ (x : TapeCall). map tape_call rest ++ (x ∷ reverse tape)) f ∙ sym (append_assoc (map tape_call rest) (tape_call call ∷ []) (reverse tape))
    ∙ ap (λ ts. ts ++ reverse tape) (sym (ap (map tape_call) e ∙ map-append tape_call rest (call ∷ []))) ∙ i

first_out : {X : Type 0} (xs : List X) (s : X) → 0 < length xs → s ≡ get_or xs 0 s → xs ≡ s ∷ remove xs 0
first_out [] s h e = absurd (omega (arith, h))
first_out (x ∷ xs) s h e = ap (λ s. s ∷ xs) (sym e)

-- what the first slot has, and the others
first_of_all : {L T : Type 0} (look : L → Looks) (at : ℕ → Handle → List T) (n k : ℕ) (ss rest : List (Slot L)) (s : Slot L) → 0 < length ss → s ≡ get_or ss 0 s → rest ≡ remove ss 0 → k ≡ suc n → at n (handle_of look s) ++ all_in at k (map (handle_of look) rest) ≡ all_in at n (map (handle_of look) ss)
first_of_all {L} look at n k ss rest s h e f j =
    ap (λ (m : ℕ). at n (handle_of look s) ++ all_in at m (map (handle_of look) rest)) j
    ∙ ap (λ (ts : List (Slot L)). at n (handle_of look s) ++ all_in at (suc n) (map (handle_of look) ts)) f
    ∙ ap (λ (ts : List (Slot L)). all_in at n (map (handle_of look) ts)) (sym (first_out ss s h e))

-- a slot's tape, and the others'
pub tape_on : {L T : Type 0} (look : L → Looks) (at : ℕ → Handle → List T) (n k : ℕ) (ss rest : List (Slot L)) (s : Slot L) (tapes more all : List T) → 0 < length ss → s ≡ get_or ss 0 s → rest ≡ remove ss 0 → more ≡ tapes ++ at n (handle_of look s) → k ≡ suc n → tapes ++ all_in at n (map (handle_of look) ss) ≡ all → more ++ all_in at k (map (handle_of look) rest) ≡ all
tape_on look at n k ss rest s tapes more all h e f g j i =
    ap (λ ts. ts ++ all_in at k (map (handle_of look) rest)) g ∙ append_assoc tapes (at n (handle_of look s)) (all_in at k (map (handle_of look) rest))
    ∙ ap (λ ts. tapes ++ ts) (first_of_all look at n k ss rest s h e f j) ∙ i

with_two : (xs ys : List Back) (back : Option (List Back)) → with_links ys (with_links xs back) ≡ with_links (xs ++ ys) back
with_two xs ys None = refl
with_two xs ys (Some bs) = ap Some (append_assoc bs xs ys)

pub with_none : (back : Option (List Back)) → with_links [] back ≡ back
with_none None = refl
with_none (Some bs) = ap Some (append-nil bs)

-- a slot's link is handed back, and the others'
pub link_on : {L : Type 0} (look : L → Looks) (at : ℕ → Handle → List Back) (n k : ℕ) (ss rest : List (Slot L)) (s : Slot L) (back more all : Option (List Back)) → 0 < length ss → s ≡ get_or ss 0 s → rest ≡ remove ss 0 → more ≡ with_links (at n (handle_of look s)) back → k ≡ suc n → with_links (all_in at n (map (handle_of look) ss)) back ≡ all → with_links (all_in at k (map (handle_of look) rest)) more ≡ all
link_on look at n k ss rest s back more all h e f g j i =
    ap (with_links (all_in at k (map (handle_of look) rest))) g ∙ with_two (at n (handle_of look s)) (all_in at k (map (handle_of look) rest)) back
    ∙ ap (λ ls. with_links ls back) (first_of_all look at n k ss rest s h e f j) ∙ i

-- a slot's tape doesn't tell what is left for dials
pub tape_same : {L : Type 0} (look : L → Looks) (n : ℕ) (left : Option (List DialItem)) (s : Slot L) → tape_at n (handle_of look s) ≡ tape_at n (handle_with look left s)
tape_same look n left Gone = refl
tape_same look n left Held = refl
tape_same look n left (Connecting c) = refl
tape_same look n left (There c) = refl
tape_same look n left (Gathering c rows) = refl
tape_same look n left (Ended t l) = refl

-- nor does its link
pub link_same : {L : Type 0} (look : L → Looks) (n : ℕ) (left : Option (List DialItem)) (s : Slot L) → links_at n (handle_of look s) ≡ links_at n (handle_with look left s)
link_same look n left Gone = refl
link_same look n left Held = refl
link_same look n left (Connecting c) = refl
link_same look n left (There c) = refl
link_same look n left (Gathering c rows) = refl
link_same look n left (Ended t l) = refl

pub all_same : {L T : Type 0} (look : L → Looks) (at : ℕ → Handle → List T) (left : ℕ → Option (List DialItem)) (k : ℕ) (ss : List (Slot L)) → ((n : ℕ) (i : Option (List DialItem)) (s : Slot L) → at n (handle_of look s) ≡ at n (handle_with look i s)) → all_in at k (map (handle_of look) ss) ≡ all_in at k (handles_from look left k ss)
all_same look at left k [] same = refl
all_same look at left k (s ∷ ss) same = ap (λ ts. ts ++ all_in at (suc k) (map (handle_of look) ss)) (same k (left k) s) ∙ ap (λ ts. at k (handle_with look (left k) s) ++ ts) (all_same look at left (suc k) ss same)

-- what is left of a slot is its tape and its link
abbrev of_some : {X : Type 0} → X → Option X → X
of_some d None = d
of_some d (Some x) = x

same_some : {X : Type 0} (x y : X) → Some x ≡ Some y → x ≡ y
same_some x y e = ap (of_some x) e

open_rows : (rows : List RowParts) (q : Option Asked) → open_call (option_map (asked_with rows) q) ≡ open_call q
open_rows rows None = refl
open_rows rows (Some a) = refl

rows_tape : (n : ℕ) (rows : List RowParts) (k : Kept) → tape_of n (with_rows rows k) ≡ tape_of n k
rows_tape n rows k = ap (λ (cs : List TapeCall). record { number = n; sent = k.sent; taken = k.taken; calls = map tape_call k.calls ++ cs }) (open_rows rows k.pending)

module _ {L : Type 0} (look : L → Looks) (n : ℕ) where
  pub no_parts : (s : Slot L) → parts_of s ≡ None → (tape_at n (handle_of look s) ≡ []) × (links_at n (handle_of look s) ≡ [])
  no_parts Gone e = (refl, refl)
  no_parts Held e = (refl, refl)
  no_parts (Connecting c) e = cc
  no_parts (There c) e = cc
  no_parts (Gathering c rows) e = cc
  no_parts (Ended t l) e = cc

  abbrev pub Has : Kept → L → Slot L → Type 0
  Has k x s = (tape_at n (handle_of look s) ≡ tape_of n k ∷ []) × (links_at n (handle_of look s) ≡ one_link n (look x))

  has_so : (p q : Parts L) (s : Slot L) → Some q ≡ Some p → Has q.0 q.1 s → Has p.0 p.1 s
  has_so p q s e w = subst (λ (r : Parts L). Has r.0 r.1 s) (same_some q p e) w

  pub has_parts : (k : Kept) (x : L) (s : Slot L) → parts_of s ≡ Some (k, x) → Has k x s
  has_parts k x Gone e = cc
  has_parts k x Held e = cc
  has_parts k x (Connecting c) e = has_so (k, x) (kept_some c.tape, c.link) (Connecting c) e (refl, refl)
  has_parts k x (There c) e = has_so (k, x) (kept_of c, c.link) (There c) e (refl, refl)
  has_parts k x (Gathering c rows) e = has_so (k, x) (kept_of c, c.link) (Gathering c rows) e (ap (λ (t : TapeView). t ∷ []) (rows_tape n rows.items (kept_of c)), refl)
  has_parts k x (Ended t l) e = has_so (k, x) (kept_in t, l) (Ended t l) e (refl, refl)

-- a tape more
pub kept_tape : {L : Type 0} (look : L → Looks) (n : ℕ) (k : Kept) (x : L) (s : Slot L) (tapes more : List Tape) (t : Tape) → parts_of s ≡ Some (k, x) → tape_view t ≡ tape_of n k → more ≡ tapes ++ t ∷ [] → map tape_view more ≡ map tape_view tapes ++ tape_at n (handle_of look s)
kept_tape look n k x s tapes more t e f g =
    ap (map tape_view) g ∙ map-append tape_view tapes (t ∷ []) ∙ ap (λ (v : TapeView). map tape_view tapes ++ v ∷ []) f
    ∙ ap (λ (vs : List TapeView). map tape_view tapes ++ vs) (sym (has_parts look n k x s e).0)

pub no_tape : {L : Type 0} (look : L → Looks) (n : ℕ) (s : Slot L) (tapes : List TapeView) → parts_of s ≡ None → tapes ≡ tapes ++ tape_at n (handle_of look s)
no_tape look n s tapes e = sym (append-nil tapes) ∙ ap (λ (vs : List TapeView). tapes ++ vs) (sym (no_parts look n s e).0)

pub no_link : {L : Type 0} (look : L → Looks) (n : ℕ) (s : Slot L) (back : Option (List Back)) → parts_of s ≡ None → back ≡ with_links (links_at n (handle_of look s)) back
no_link look n s back e = sym (with_none back) ∙ ap (λ (ls : List Back). with_links ls back) (sym (no_parts look n s e).1)

pub kept_link : {L : Type 0} (look : L → Looks) (n : ℕ) (k : Kept) (x : L) (s : Slot L) (old new : Option (List Back)) → parts_of s ≡ Some (k, x) → new ≡ with_links (one_link n (look x)) old → new ≡ with_links (links_at n (handle_of look s)) old
kept_link look n k x s old new e f = f ∙ ap (λ (ls : List Back). with_links ls old) (sym (has_parts look n k x s e).1)

pub kept_handed : {L : Type 0} (look : L → Looks) (n : ℕ) (k : Kept) (x : L) (s : Slot L) (old new : Option (List Back)) → parts_of s ≡ Some (k, x) → HandedBack (one_link n (look x)) old new → HandedBack (links_at n (handle_of look s)) old new
kept_handed look n k x s old new e w = subst (λ (ls : List Back). HandedBack ls old new) (sym (has_parts look n k x s e).1) w
