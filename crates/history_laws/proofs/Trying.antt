-- Values that the definitions accept, and wrong ones that they refute.
use Rattle.std.proofs.Common.{◌≡◌, inl, inr, ℕ, List, [], ◌∷◌, drop, length, cond, None, Some, true, refl, ap, subst}
use Rattle.my_grammar.specs.declared.login.Login.{Login}
use Rattle.my_grammar.specs.declared.spot.Terms.{Terms}
use Rattle.my_grammar.specs.Talk.{Asked, Talk}
use Rattle.my_reading.specs.declared.call.Call.TheVariants.{Connect, NextRow, Reset}
use Rattle.my_reading.specs.declared.settings.Settings.{Settings}
use Rattle.my_reading.specs.declared.settings.Stage.TheVariants.{Known}
use Rattle.my_reading.specs.Calls.{is_connect, kind_of}
use Rattle.my_reading.specs.Commands.{arranging_texts}
use Rattle.my_reading.specs.Place.{Exchange, Place, client_side, connects_in, exchanges, owed}
use Rattle.my_reading.specs.Statements.{first_statements}
use Rattle.my_reading.specs.Told.{ToldFlag, ToldReady}
use Rattle.history_laws.specs.Owners.{AreOf, IsArranged, IsTied}
use Rattle.history_laws.specs.Sent.{IsSentOf, is_answered}
use Rattle.history_laws.specs.Settled.{IsSet, is_known}
use Rattle.history_laws.specs.Table.{Opens, Opening, Closing, Running, Asking, Renewing, Undoing}
use Rattle.history_laws.specs.Tried.{AreTried, made, query}

lacking : IsTied (made query ToldReady ∷ made Connect ToldReady ∷ []) (Connect ∷ []) → ⊥
lacking (inl w) = let no = w.0 in cc
lacking (inr w) = let no : query ≡ Connect = w.0 in cc

unsent : IsTied (made Reset (ToldFlag true) ∷ []) [] → ⊥
unsent (inl w) = let no = w.0 in cc
unsent (inr w) = w

stray : AreOf None (made Connect ToldReady ∷ []) (query ∷ Connect ∷ []) → ⊥
stray (inl w) = w
stray (inr (inl w)) = w.1
stray (inr (inr w)) = let no : Connect ≡ query = w.0 in cc

other : (login : Login) (terms kept : Terms) (c : List ℕ) → Opens login terms query 3 (Asked kept c) → ⊥
other login terms kept c (Opening st e) = cc
other login terms kept c (Closing id k e) = cc
other login terms kept c (Running w) = let no = w.kind in cc
other login terms kept c (Asking w) = let no = w.listed in cc
other login terms kept c (Renewing w) = let no = w.kind in cc
other login terms kept c (Undoing w) = let no = w.queries in cc

reads : (login : Login) (terms : Terms) (t : Talk) → Opens login terms NextRow 3 t → ⊥
reads login terms t (Opening st e) = cc
reads login terms t (Closing id k e) = cc
reads login terms t (Running w) = let no = w.kind in cc
reads login terms t (Asking w) = let no = w.listed in cc
reads login terms t (Renewing w) = let no = w.kind in cc
reads login terms t (Undoing w) = let no = w.cleans in cc

unarranged : (login : Login) (e : Exchange) → arranging_texts login ≡ (1 ∷ []) ∷ [] → e.call ≡ Connect → IsArranged login (made Connect ToldReady ∷ []) (e ∷ []) → ⊥
unarranged login e texts is w =
    let n = (w refl).0 in
    let m : length (arranging_texts login) ≡ 1 = ap length texts in
    let k : connects_in (e ∷ []) ≡ 1 = ap (λ c. cond (is_connect (kind_of c)) 1 0) is in
    cc

early : (p : Place) → p.sent ≡ [] → (x : ℕ) (xs : List ℕ) → client_side (exchanges p) ≡ x ∷ xs → is_answered p.talk ≡ true → IsSentOf p [] → ⊥
early p none x xs e answered w =
    let paid : owed p ≡ [] = w.answered answered in
    let all : drop 0 (client_side (exchanges p)) ≡ [] = subst (λ (s : List ℕ). drop (length s) (client_side (exchanges p)) ≡ []) none paid in
    cc

unset : (login : Login) (s : Settings) → login.packet_limit ≡ Some 7 → s.stage ≡ Known → s.limit ≡ 8 → IsSet login s → ⊥
unset login s option known limit w =
    let same : s.limit ≡ s.next_limit = w.after (ap is_known known) in
    let set : s.next_limit ≡ 7 = w.limit_set 7 option in
    cc

pub are_tried : AreTried
are_tried = (
  record {
    one = inr (refl, inl (inr (refl, inl tt)));
    more = inr (refl, inr (refl, (refl, inl (inr (refl, inr (refl, (refl, inl tt)))))));
    waits = inl (refl, inl (inr (refl, inl tt)));
    begins = λ login terms. Opening (first_statements login) refl;
    says = λ f status. refl;
  },
  record { lacking = lacking; unsent = unsent; stray = stray; other = other; reads = reads; unarranged = unarranged; early = early; unset = unset },
)
