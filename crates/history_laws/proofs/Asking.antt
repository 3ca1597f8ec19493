-- A connection that was made knows its settings: the login was accepted, and where an option isn't set, so was the query that asks the server.
use Rattle.std.proofs.Common.{◌≡◌, ℕ, suc, length, List, [], ◌∷◌, ◌++◌, Bool, true, false, cond, not, Option, Some, None, reverse, slice_get, refl, sym, ap, ◌∙◌, subst, arith}
use Rattle.my_auth.specs.declared.chain.AuthAsk.{AuthAsk}
use Rattle.my_auth.specs.declared.chain.AuthStand.{AuthStand}
use Rattle.my_flags.specs.declared.flags.StatusFlags.{StatusFlags}
use Rattle.my_grammar.specs.declared.login.Login.{Login}
use Rattle.my_grammar.specs.declared.packet.Packet.{Packet}
use Rattle.my_grammar.specs.declared.spot.Kind.{Kind}
use Rattle.my_grammar.specs.declared.spot.Offer.{Offer}
use Rattle.my_grammar.specs.declared.spot.Kind.TheVariants as kinds
use Rattle.my_grammar.specs.declared.spot.RowFormat.TheVariants.{Text}
use Rattle.my_grammar.specs.declared.spot.Terms.{Terms}
use Rattle.my_grammar.proofs.Growth.{is_chain_kind, known_chain}
use Rattle.my_grammar.proofs.Growth.Known.{is_then}
use Rattle.my_grammar.proofs.Growth.SetGrowth.{none}
use Rattle.my_grammar.specs.Contexts.{is_bad}
use Rattle.my_grammar.specs.Cut.{is_idle, is_over}
use Rattle.my_grammar.specs.Sets.{Sets, Lone, Begun, Ended, packets_in, spot_in}
use Rattle.my_grammar.specs.Talk.{Talk, Start, Unwelcome, Greeted, Queried, Fits, origin, packets_of, FitChain, chain_kind, chain_spot, greeted_stand, stand_in, stand_next}
use Rattle.my_value.specs.RowParts.{RowParts}
use Rattle.my_reading.specs.declared.call.Call.{Call}
use Rattle.my_reading.specs.declared.call.Call.TheVariants.{Connect}
use Rattle.my_reading.specs.declared.facts.Facts.{Facts}
use Rattle.my_reading.specs.declared.settings.Settings.{Settings}
use Rattle.my_reading.specs.declared.settings.Stage.{Stage}
use Rattle.my_reading.specs.declared.settings.Stage.TheVariants as stages
use Rattle.my_reading.specs.Calls.{is_connect, kind_of}
use Rattle.my_reading.specs.Commands.{arranging, arranging_texts, at_most_one, opening, queried, settings_text, setup_texts}
use Rattle.my_reading.specs.Facts.{facts_after, facts_by, first_facts}
use Rattle.my_reading.specs.Place.{Exchange, connects_in, facts_of, terms_of}
use Rattle.my_reading.specs.Rows.{row_at}
use Rattle.my_reading.specs.Settings.{awaits_row, end_settings, first_settings, good_settings, row_settings, settled, told_by}
use Rattle.my_reading.specs.Statements.{Statements}
use Rattle.history_laws.specs.Order.{AreDone}
use Rattle.history_laws.specs.Settled.{is_known}
use Rattle.history_laws.specs.Table.{Follow, Opens, Opening, Closing, Running, Asking, Renewing, Undoing}
use Rattle.history_laws.proofs.Blaming.{is_failed}
use Rattle.history_laws.proofs.Setting.{payload_settings, settings_after}

-- the newest payload is no ERR
abbrev pub ends_well : List Packet → Bool
ends_well [] = true
ends_well (packet ∷ packets) = not (is_failed packet.kind)

abbrev pub AreAccepted : List Exchange → Type 0
AreAccepted [] = Unit {0}
AreAccepted (e ∷ es) = (ends_well (packets_of e.talk) ≡ true) × AreAccepted es

-- whether the server was asked, or needn't be
abbrev is_asked : Stage → Bool
is_asked stages.Unasked = false
is_asked s = true

-- it stays so
good_asked : (stage : Stage) (s : Settings) → is_asked stage ≡ true → s.stage ≡ stage → is_asked (good_settings stage s).stage ≡ true
good_asked stages.Unasked s e is = cc
good_asked stages.Asked s e is = refl
good_asked stages.Known s e is = ap is_asked is

end_asked : (stage : Stage) (s : Settings) → is_asked stage ≡ true → s.stage ≡ stage → is_asked (end_settings stage s).stage ≡ true
end_asked stages.Unasked s e is = cc
end_asked stages.Asked s e is = refl
end_asked stages.Known s e is = ap is_asked is

told_asked : (row : Option RowParts) (s : Settings) → is_asked s.stage ≡ true → is_asked (told_by row s).stage ≡ true
told_asked None s e = e
told_asked (Some row) s e = e

row_asked : (row : Option RowParts) (s : Settings) → is_asked s.stage ≡ true → is_asked (row_settings row s).stage ≡ true
row_asked row s e = by_stage (awaits_row s.stage)
  where
    by_stage : (b : Bool) → is_asked (cond {A = Settings} b (told_by row s) s).stage ≡ true
    by_stage true = told_asked row s e
    by_stage false = e

kind_asked : (k : Kind) (row : Option RowParts) (s : Settings) → is_asked s.stage ≡ true → is_asked (settings_after k row s).stage ≡ true
kind_asked (kinds.Good status) row s e = good_asked s.stage s e refl
kind_asked kinds.Row row s e = row_asked row s e
kind_asked (kinds.End status) row s e = end_asked s.stage s e refl
kind_asked _ row s e = e

packets_asked : (packets : List Packet) (f : Facts) → is_asked f.settings.stage ≡ true → is_asked (facts_by packets f).settings.stage ≡ true
packets_asked [] f e = e
packets_asked (packet ∷ packets) f e =
    let g = facts_by packets f in
    ap (λ (s : Settings). is_asked s.stage) (payload_settings packet.kind packet.payload g) ∙ kind_asked packet.kind (row_at Text g.columns packet.payload) g.settings (packets_asked packets f e)

-- the end of a set
good_knows : (stage : Stage) (s : Settings) → is_asked stage ≡ true → s.stage ≡ stage → is_known (good_settings stage s).stage ≡ true
good_knows stages.Unasked s e is = cc
good_knows stages.Asked s e is = refl
good_knows stages.Known s e is = ap is_known is

end_knows : (stage : Stage) (s : Settings) → is_asked stage ≡ true → s.stage ≡ stage → is_known (end_settings stage s).stage ≡ true
end_knows stages.Unasked s e is = cc
end_knows stages.Asked s e is = refl
end_knows stages.Known s e is = ap is_known is

-- a response that is over and accepted
sets_know : (x : Sets) (f : Facts) → is_idle (spot_in x) ≡ true → ends_well (packets_in x) ≡ true → is_asked f.settings.stage ≡ true → is_known (facts_by (packets_in x) f).settings.stage ≡ true
sets_know (Lone older p status) f over well asked = let g = facts_by (packets_in older) f in good_knows g.settings.stage g.settings (packets_asked (packets_in older) f asked) refl
sets_know (Ended older head rows last status) f over well asked = end_known_after (packets_in (Begun older head rows)) status last f asked
  where
    end_known_after : (ps : List Packet) (s : StatusFlags) (p : List ℕ) (g : Facts) → is_asked g.settings.stage ≡ true → is_known (facts_after (kinds.End s) p (facts_by ps g)).settings.stage ≡ true
    end_known_after ps s p g e = let h = facts_by ps g in end_knows h.settings.stage h.settings (packets_asked ps g e) refl
sets_know _ f over well asked = absurd (cc)

-- a chain that goes on after a payload: it was a request
goes : (k : Kind) (o : Option AuthStand) (stand : AuthStand) → stand_next k o ≡ Some stand → ((ask : AuthAsk) × (k ≡ kinds.Asks ask)) × ((s : AuthStand) × (o ≡ Some s))
goes (kinds.Asks ask) (Some s) stand e = ((ask, refl), (s, refl))
goes (kinds.Asks ask) None stand e = cc
goes _ o stand e = cc

-- requests say nothing of the settings
requests_say_none : (first : AuthStand) (chain others : List Packet) (f : Facts) (stand : AuthStand) → stand_in first chain ≡ Some stand → (facts_by (chain ++ others) f).settings ≡ (facts_by others f).settings
requests_say_none first [] others f stand e = refl
requests_say_none first (packet ∷ chain) others f stand e =
    let g = facts_by (chain ++ others) f in
    let w = goes packet.kind (stand_in first chain) stand e in
    payload_settings packet.kind packet.payload g ∙ ap (λ k. settings_after k (row_at Text g.columns packet.payload) g.settings) w.0.1 ∙ requests_say_none first chain others f w.1.0 w.1.1

-- what ends a chain well is an OK
ended_well : (o : Option AuthStand) (k : Kind) (p : List ℕ) → chain_kind o p ≡ k → is_bad k ≡ false → is_chain_kind k ≡ true → is_idle (chain_spot (stand_next k o)) ≡ true → not (is_failed k) ≡ true
    → ((status : StatusFlags) × (k ≡ kinds.Good status)) × ((s : AuthStand) × (o ≡ Some s))
ended_well None k p e good known over well = absurd (none k e good)
ended_well (Some s) (kinds.Good status) p e good known over well = ((status, refl), (s, refl))
ended_well (Some s) (kinds.Asks ask) p e good known over well = absurd (cc)
ended_well (Some s) kinds.Failed p e good known over well = absurd (cc)
ended_well (Some s) _ p e good known over well = absurd (cc)

-- the login
login_settled : (login : Login) (first : AuthStand) (packet : Packet) (chain : List Packet) (q : List ℕ) (offer : Offer) → FitChain first (packet ∷ chain) → is_idle (chain_spot (stand_in first (packet ∷ chain))) ≡ true → not (is_failed packet.kind) ≡ true
    → (facts_by ((packet ∷ chain) ++ record { kind = kinds.Greets offer; payload = q } ∷ []) (first_facts login)).settings ≡ settled login.packet_limit login.wait_timeout (first_settings login)
login_settled login first packet chain q offer f over well =
    let o = stand_in first chain in
    let w = ended_well o packet.kind packet.payload f.1 f.2 (is_then is_chain_kind (chain_kind o packet.payload) packet.kind (known_chain o packet.payload) f.1) over well in
    let others : List Packet = record { kind = kinds.Greets offer; payload = q } ∷ [] in
    let g = facts_by (chain ++ others) (first_facts login) in
    payload_settings packet.kind packet.payload g ∙ ap (λ k. settings_after k (row_at Text g.columns packet.payload) g.settings) w.0.1
    ∙ ap (λ (s : Settings). good_settings s.stage s) (requests_say_none first chain others (first_facts login) w.1.0 w.1.1 ∙ payload_settings (kinds.Greets offer) q (first_facts login))

first_settled : (login : Login) (t : Talk) → origin t ≡ Start login → Fits t → is_over t ≡ true → ends_well (packets_of t) ≡ true → (facts_by (packets_of t) (first_facts login)).settings ≡ settled login.packet_limit login.wait_timeout (first_settings login)
first_settled login (Start l) o f over well = absurd (cc)
first_settled login (Unwelcome l q) o f over well = absurd (cc)
first_settled login (Greeted l q offer []) o f over well = absurd (cc)
first_settled login (Greeted l q offer (packet ∷ chain)) o f over well = login_settled login (greeted_stand l offer) packet chain q offer f.kinds.1 over well
first_settled login _ o f over well = cc

settled_asked : (a b : Option ℕ) (s : Settings) → is_asked (settled a b s).stage ≡ true
settled_asked None b s = refl
settled_asked (Some x) None s = refl
settled_asked (Some x) (Some y) s = refl

settled_knows : (a b : Option ℕ) (s : Settings) (more : List (List ℕ)) → length (at_most_one (settings_text a b) ++ more) ≡ 0 → is_known (settled a b s).stage ≡ true
settled_knows None None s more e = absurd (omega arith)
settled_knows None (Some y) s more e = absurd (omega arith)
settled_knows (Some x) None s more e = absurd (omega arith)
settled_knows (Some x) (Some y) s more e = refl

-- a query
query_knows : (t : Talk) (terms : Terms) (text : List ℕ) (f : Facts) → origin t ≡ queried terms text → is_over t ≡ true → ends_well (packets_of t) ≡ true → is_asked f.settings.stage ≡ true → is_known (facts_by (packets_of t) f).settings.stage ≡ true
query_knows (Queried ts c x) terms text f o over well asked = sets_know x f over well asked
query_knows _ terms text f o over well asked = cc

-- what connecting begins by the table
connect_opens : (login : Login) (terms : Terms) (c : Call) (n : ℕ) (t : Talk) → c ≡ Connect → Opens login terms c n t → (st : Statements) × (opening login terms st Connect n ≡ Some t)
connect_opens login terms c n t is o = by_way (subst (λ (d : Call). Opens login terms d n t) is o)
  where
    by_way : Opens login terms Connect n t → (st : Statements) × (opening login terms st Connect n ≡ Some t)
    by_way (Opening st e) = (st, e)
    by_way (Closing id k e) = absurd (cc)
    by_way (Running w) = absurd (let no = w.kind in cc)
    by_way (Asking w) = absurd (let no = w.listed in cc)
    by_way (Renewing w) = absurd (let no = w.kind in cc)
    by_way (Undoing w) = absurd (let no = w.cleans in cc)

abbrev pub AreConnects : List Exchange → Type 0
AreConnects [] = Unit {0}
AreConnects (e ∷ es) = (e.call ≡ Connect) × AreConnects es

-- how many exchanges there are
pub all_connect : (es : List Exchange) → AreConnects es → connects_in es ≡ length es
all_connect [] w = refl
all_connect (e ∷ es) w = ap (λ c. cond (is_connect (kind_of c)) (suc (connects_in es)) (connects_in es)) w.0 ∙ ap suc (all_connect es w.1)

first_opens : (login : Login) (terms : Terms) (st : Statements) (t : Talk) → opening login terms st Connect 0 ≡ Some t → t ≡ Start login
first_opens login terms st t e = cc

later_opens : (terms : Terms) (o : Option (List ℕ)) (t : Talk) → arranging terms o ≡ Some t → (text : List ℕ) × (t ≡ queried terms text)
later_opens terms None t e = cc
later_opens terms (Some text) t e = (text, cc)

-- exchanges of connecting that are over and accepted
record IsSound (login : Login) (es : List Exchange) : Type 0 where
  table : Follow login es
  own : AreConnects es
  done : AreDone es
  accepted : AreAccepted es

sound_on : (login : Login) (e : Exchange) (es : List Exchange) → IsSound login (e ∷ es) → IsSound login es
sound_on login e es w = record { table = w.table.1; own = w.own.1; done = w.done.2; accepted = w.accepted.1 }

one_settled : (login : Login) (e : Exchange) → IsSound login (e ∷ []) → (facts_of login (e ∷ [])).settings ≡ settled login.packet_limit login.wait_timeout (first_settings login)
one_settled login e w =
    let o = connect_opens login (terms_of login []) e.call 0 (origin e.talk) w.own.0 w.table.0 in
    first_settled login e.talk (first_opens login (terms_of login []) o.0 (origin e.talk) o.1) w.done.1 w.done.0 w.accepted.0

all_asked : (login : Login) (e : Exchange) (es : List Exchange) → IsSound login (e ∷ es) → is_asked (facts_of login (e ∷ es)).settings.stage ≡ true
all_asked login e [] w = ap (λ (s : Settings). is_asked s.stage) (one_settled login e w) ∙ settled_asked login.packet_limit login.wait_timeout (first_settings login)
all_asked login e (d ∷ es) w = packets_asked (packets_of e.talk) (facts_of login (d ∷ es)) (all_asked login d es (sound_on login e (d ∷ es) w))

two_known : (login : Login) (e d : Exchange) (es : List Exchange) → IsSound login (e ∷ d ∷ es) → is_known (facts_of login (e ∷ d ∷ es)).settings.stage ≡ true
two_known login e d es w =
    let terms : Terms = terms_of login (d ∷ es) in
    let o = connect_opens login terms e.call (connects_in (d ∷ es)) (origin e.talk) w.own.0 w.table.0 in
    let count : connects_in (d ∷ es) ≡ suc (length es) = all_connect (d ∷ es) w.own.1 in
    let asks = later_opens terms (slice_get (arranging_texts login) (length es)) (origin e.talk) (sym (ap (λ n. opening login terms o.0 Connect n) count) ∙ o.1) in
    query_knows e.talk terms asks.0 (facts_of login (d ∷ es)) asks.1 w.done.0 w.accepted.0 (all_asked login d es (sound_on login e (d ∷ es) w))

sound_known : (login : Login) (es : List Exchange) → IsSound login es → length es ≡ suc (length (arranging_texts login)) → is_known (facts_of login es).settings.stage ≡ true
sound_known login [] w e = absurd (omega arith)
sound_known login (e ∷ []) w count =
    ap (λ (s : Settings). is_known s.stage) (one_settled login e w)
    ∙ settled_knows login.packet_limit login.wait_timeout (first_settings login) (reverse login.init ++ setup_texts login) (let none : length (arranging_texts login) ≡ 0 = omega arith in none)
sound_known login (e ∷ d ∷ es) w count = two_known login e d es w

pub connect_known : (login : Login) (es : List Exchange) → Follow login es → AreConnects es → AreDone es → AreAccepted es → length es ≡ suc (length (arranging_texts login)) → is_known (facts_of login es).settings.stage ≡ true
connect_known login es table own done accepted count = sound_known login es (record { table = table; own = own; done = done; accepted = accepted }) count
