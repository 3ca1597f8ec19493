-- The first call of each connection connects, and no other does.
use Rattle.std.proofs.Common.{ℕ, ◌≡◌, List, [], ◌∷◌, ◌++◌, length, map, Bool, true, false, not, ◌&&◌, Option, Some, None, refl, sym, ap, ◌∙◌, subst}
use Rattle.my_value.specs.RowParts.{RowParts}
use Rattle.my_grammar.specs.declared.login.Login.{Login}
use Rattle.my_reading.specs.declared.call.Call.{Call}
use Rattle.my_reading.specs.Calls.{kind_of, is_connect}
use Rattle.my_client.specs.declared.tape.DoneCall.{DoneCall}
use Rattle.my_client.specs.declared.tape.Said.{Said}
use Rattle.my_client.specs.Kept.{Asked, Kept, asking, ended_by}
use Rattle.my_client.specs.Reads.{calls_kept}
use Rattle.my_link.specs.World.{Plans}
use Rattle.my_steps.specs.Grows.{Line, AreGrown, handles_after}
use Rattle.my_steps.specs.Handle.{Handle, at_number}
use Rattle.run_laws.proofs.Growing.{HasAt, AllHave, at_has, grown_keeps}

-- the calls that a connection kept
abbrev pub kept_calls : Kept → List Call
kept_calls k = map (λ c. c.call) (calls_kept k.calls k.pending)

abbrev pub none_connects : List Call → Bool
none_connects [] = true
none_connects (c ∷ cs) = not (is_connect (kind_of c)) && none_connects cs

abbrev pub connects_once : List Call → Bool
connects_once [] = false
connects_once (c ∷ cs) = is_connect (kind_of c) && none_connects cs

abbrev pub IsOnceKept : Kept → Type 0
IsOnceKept k = connects_once (kept_calls k) ≡ true

abbrev pub IsOnce : Handle → Type 0
IsOnce h = HasAt IsOnceKept h

abbrev pub AreOnce : List Handle → Type 0
AreOnce hs = AllHave IsOnceKept hs

pub both : (a b : Bool) → a ≡ true → b ≡ true → a && b ≡ true
both true b e f = f
both false b e f = cc

pub left_of : (a b : Bool) → a && b ≡ true → a ≡ true
left_of true b e = refl
left_of false b e = cc

pub right_of : (a b : Bool) → a && b ≡ true → b ≡ true
right_of true b e = e
right_of false b e = cc

none_more : (cs : List Call) (c : Call) → none_connects cs ≡ true → is_connect (kind_of c) ≡ false → none_connects (cs ++ c ∷ []) ≡ true
none_more [] c n e = both _ _ (ap not e) refl
none_more (x ∷ cs) c n e = both _ _ (left_of _ (none_connects cs) n) (none_more cs c (right_of (not (is_connect (kind_of x))) _ n) e)

once_more : (cs : List Call) (c : Call) → connects_once cs ≡ true → is_connect (kind_of c) ≡ false → connects_once (cs ++ c ∷ []) ≡ true
once_more [] c n e = cc
once_more (x ∷ cs) c n e = both _ _ (left_of _ (none_connects cs) n) (none_more cs c (right_of (is_connect (kind_of x)) _ n) e)

-- a call that begins, and one that ends
open_more : (ds : List DoneCall) (a : Asked) → map (λ c. c.call) (calls_kept ds (Some a)) ≡ map (λ c. c.call) (calls_kept ds None) ++ a.call ∷ []
open_more [] a = refl
open_more (d ∷ ds) a = ap (λ cs. d.call ∷ cs) (open_more ds a)

end_same : (ds : List DoneCall) (d : DoneCall) (a : Asked) → d.call ≡ a.call → map (λ c. c.call) (calls_kept (ds ++ d ∷ []) None) ≡ map (λ c. c.call) (calls_kept ds (Some a))
end_same [] d a e = ap (λ c. c ∷ []) e
end_same (x ∷ ds) d a e = ap (λ cs. x.call ∷ cs) (end_same ds d a e)

begun_once : (k : Kept) (call : Call) (rows : Option (List RowParts)) → k.pending ≡ None → is_connect (kind_of call) ≡ false → connects_once (kept_calls k) ≡ true → connects_once (kept_calls (asking k call rows)) ≡ true
begun_once k call rows none other w =
    let same : kept_calls (asking k call rows) ≡ kept_calls k ++ call ∷ [] =
    open_more k.calls (record { call = call; sent_from = length k.sent; taken_from = length k.taken; rows = rows }) ∙ ap (λ p. map (λ c. c.call) (calls_kept k.calls p) ++ call ∷ []) (sym none) in
    subst (λ cs. connects_once cs ≡ true) (sym same) (once_more (kept_calls k) call w other)

ended_once : (k : Kept) (a : Asked) (said : Said) → k.pending ≡ Some a → connects_once (kept_calls k) ≡ true → connects_once (kept_calls (ended_by k a said)) ≡ true
ended_once k a said pending w =
    let same : kept_calls (ended_by k a said) ≡ kept_calls k =
    end_same k.calls (record { call = a.call; sent_from = a.sent_from; taken_from = a.taken_from; said = said }) a refl ∙ ap (λ p. map (λ c. c.call) (calls_kept k.calls p)) (sym pending) in
    subst (λ cs. connects_once cs ≡ true) (sym same) w

followed_once : (k f : Kept) (sent taken : List ℕ) → f.sent ≡ k.sent ++ sent → f.taken ≡ k.taken ++ taken → f.calls ≡ k.calls → f.pending ≡ k.pending
    → connects_once (kept_calls k) ≡ true → connects_once (kept_calls f) ≡ true
followed_once k f sent taken grown more calls pending w =
    let same : kept_calls f ≡ kept_calls k = ap (λ p. map (λ c. c.call) (calls_kept f.calls p)) pending ∙ ap (λ ds. map (λ c. c.call) (calls_kept ds k.pending)) calls in
    subst (λ cs. connects_once cs ≡ true) (sym same) w

pub at_once : (login : Login) (hs : List Handle) (n : ℕ) → AreOnce hs → IsOnce (at_number hs n)
at_once login hs n w = at_has IsOnceKept begun_once ended_once followed_once refl login hs n w

pub grown_once : (login : Login) (plans : Plans) (ls : List Line) → AreGrown login plans ls → AreOnce (handles_after ls)
grown_once login plans ls w = grown_keeps IsOnceKept begun_once ended_once followed_once refl login plans ls w
