-- Which exchanges await a greeting, and which are over only once they were answered.
use Rattle.std.proofs.Common.{◌≡◌, ℕ, List, Bool, true, false, cond, Some, refl, Option, None, [], ◌∷◌, ◌++◌}
use Rattle.my_flags.specs.declared.flags.StatusFlags.{StatusFlags}
use Rattle.my_flags.specs.Sets.{deprecates_eof, has_more_results}
use Rattle.my_auth.specs.declared.chain.AuthStand.{AuthStand}
use Rattle.my_handshake.specs.Version.{version_of}
use Rattle.my_grammar.proofs.Growth.{is_chain_kind, known_chain}
use Rattle.my_grammar.proofs.Growth.Known.{is_then}
use Rattle.my_grammar.specs.declared.account.Account.{Account}
use Rattle.my_grammar.specs.declared.login.Login.{Login}
use Rattle.my_grammar.specs.declared.packet.Packet.{Packet}
use Rattle.my_grammar.specs.declared.spot.Kind.{Kind}
use Rattle.my_grammar.specs.declared.spot.Kind.TheVariants as kinds
use Rattle.my_grammar.specs.declared.spot.Spot.TheVariants.{Idle, Further}
use Rattle.my_grammar.specs.declared.spot.Terms.{Terms}
use Rattle.my_grammar.specs.Contexts.{more, is_bad}
use Rattle.my_grammar.specs.Cut.{is_idle, is_over}
use Rattle.my_grammar.specs.Growth.{grow, is_calm}
use Rattle.my_grammar.specs.Prepares.{Reply, Unanswered, grow_reply, spot_in_reply}
use Rattle.my_grammar.specs.Sets.{Sets, Lone, Failed, Ended, Broken, grow_sets, packets_in, spot_in}
use Rattle.my_grammar.specs.Talk.{Talk, Start, Unwelcome, Greeted, Asked, Replied, Queried, Preparing, Silent, Fits, context_of, Changing, FitChain, chain_kind, chain_spot, greeted_stand, stand_in, stand_next}
use Rattle.my_reading.specs.declared.call.Call.{Call}
use Rattle.my_reading.specs.declared.facts.Facts.{Facts}
use Rattle.my_reading.specs.Calls.{is_connect, kind_of}
use Rattle.my_reading.specs.Commands.{execution, opening, renewal, renews_by_reset}
use Rattle.my_reading.specs.Course.{is_greeting, renewing}
use Rattle.my_reading.specs.Executions.{Values}
use Rattle.my_reading.specs.Place.{Place, exchanges, facts_at, terms_of}
use Rattle.my_reading.specs.Statements.{Statements}
use Rattle.history_laws.proofs.Opening.{Opened, Starts, executed, opened}
use Rattle.history_laws.specs.Sent.{ends_answered, is_answered}

-- an exchange that doesn't await the greeting
abbrev pub IsShook : Talk → Type 0
IsShook t = is_greeting (context_of t).spot ≡ false

more_shook : (s : StatusFlags) → is_greeting (more s) ≡ false
more_shook s = by_more (has_more_results s)
  where
    by_more : (b : Bool) → is_greeting (cond b Further Idle) ≡ false
    by_more true = refl
    by_more false = refl

sets_shook : (x : Sets) → is_greeting (spot_in x) ≡ false
sets_shook (Lone older p status) = more_shook status
sets_shook (Ended older head rows last status) = more_shook status
sets_shook _ = refl

reply_shook : (r : Reply) → is_greeting (spot_in_reply r) ≡ false
reply_shook Unanswered = refl
reply_shook _ = refl

pub chain_shook : (o : Option AuthStand) → is_greeting (chain_spot o) ≡ false
chain_shook None = refl
chain_shook (Some stand) = refl

pub shook_on : (t : Talk) (k : Kind) (q : List ℕ) → IsShook t → IsShook (grow k t q)
shook_on (Start login) k q e = absurd (cc)
shook_on (Greeted login p offer chain) k q e = chain_shook (stand_next k (stand_in (greeted_stand login offer) chain))
shook_on (Changing terms secret stand c chain) k q e = chain_shook (stand_next k (stand_in stand chain))
shook_on (Queried terms c x) k q e = sets_shook (grow_sets (deprecates_eof terms.kept) k x q)
shook_on (Preparing terms c r) k q e = reply_shook (grow_reply (deprecates_eof terms.kept) k r q)
shook_on _ k q e = refl

-- the renewal of the server's session
renewal_shook : (login : Login) (terms : Terms) (f : Facts) (account : Account) (by_reset : Bool) → IsShook (renewal login terms f account by_reset)
renewal_shook login terms f account true = refl
renewal_shook login terms f account false = refl

pub renewing_shook : (login : Login) (c : Call) (p : Place) → IsShook (renewing login c p (facts_at login p))
renewing_shook login c p =
    let f = facts_at login p in
    renewal_shook login (terms_of login (exchanges p)) f p.account (renews_by_reset (kind_of c) (version_of f.version))

-- what any call but the one that connects begins
begun_shook : (connects : Bool) (terms : Terms) (t : Talk) → connects ≡ false → Opened connects terms t → IsShook t
begun_shook connects terms t other (Starts login e) = absurd (cc)
begun_shook connects terms t other _ = refl

pub executed_shook : (terms : Terms) (st : Statements) (id : ℕ) (v : Values) (t : Talk) → execution terms st id v ≡ Some t → IsShook t
executed_shook terms st id v t e = begun_shook false terms t refl (executed false terms st id v t e)

pub opened_shook : (login : Login) (terms : Terms) (st : Statements) (c : Call) (n : ℕ) (t : Talk) → is_connect (kind_of c) ≡ false → opening login terms st c n ≡ Some t → IsShook t
opened_shook login terms st c n t other e = begun_shook (is_connect (kind_of c)) terms t other (opened login terms st c n t e)

-- the exchanges of connecting
abbrev pub connects : Talk → Bool
connects (Start login) = true
connects (Unwelcome login p) = true
connects (Greeted login p offer chain) = true
connects (Queried terms c x) = true
connects t = false

start_connects : (login : Login) (k : Kind) (q : List ℕ) → connects (grow k (Start login) q) ≡ true
start_connects login (kinds.Greets n) q = refl
start_connects login _ q = refl

pub connects_on : (t : Talk) (k : Kind) (q : List ℕ) → connects t ≡ true → connects (grow k t q) ≡ true
connects_on (Start login) k q e = start_connects login k q
connects_on (Asked terms c) k q e = absurd (cc)
connects_on (Replied terms c last kind) k q e = absurd (cc)
connects_on (Changing terms secret stand c chain) k q e = absurd (cc)
connects_on (Preparing terms c r) k q e = absurd (cc)
connects_on (Silent terms c) k q e = absurd (cc)
connects_on _ k q e = refl

-- what ends a chain is no request
chain_ends : (o : Option AuthStand) (k : Kind) (p : List ℕ) → chain_kind o p ≡ k → is_bad k ≡ false → is_chain_kind k ≡ true → is_idle (chain_spot (stand_next k o)) ≡ true → is_calm k ≡ true
chain_ends o (kinds.Greets offer) p is good known over = absurd (cc)
chain_ends None (kinds.Asks ask) p is good known over = absurd (cc)
chain_ends (Some stand) (kinds.Asks ask) p is good known over = absurd (cc)
chain_ends o _ p is good known over = refl

pub chain_answered : (first : AuthStand) (chain : List Packet) (others : List Packet) → FitChain first chain → is_idle (chain_spot (stand_in first chain)) ≡ true → ends_answered (chain ++ others) ≡ true
chain_answered first [] others f over = absurd (cc)
chain_answered first (packet ∷ chain) others f over =
    let o = stand_in first chain in
    chain_ends o packet.kind packet.payload f.1 f.2 (is_then is_chain_kind (chain_kind o packet.payload) packet.kind (known_chain o packet.payload) f.1) over

sets_answered : (x : Sets) → is_idle (spot_in x) ≡ true → ends_answered (packets_in x) ≡ true
sets_answered (Lone older p status) e = refl
sets_answered (Failed older p) e = refl
sets_answered (Ended older head rows last status) e = refl
sets_answered (Broken older head rows last) e = refl
sets_answered _ e = absurd (cc)

-- one that is over was answered
pub over_answered : (t : Talk) → connects t ≡ true → Fits t → is_over t ≡ true → is_answered t ≡ true
over_answered (Unwelcome login p) s f e = refl
over_answered (Greeted login p offer chain) s f e = chain_answered (greeted_stand login offer) chain (record { kind = kinds.Greets offer; payload = p } ∷ []) f.kinds.1 e
over_answered (Queried terms c x) s f e = sets_answered x e
over_answered _ s f e = absurd (cc)
