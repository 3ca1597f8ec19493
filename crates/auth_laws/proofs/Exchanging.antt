-- The chain of an exchange is one of moves.
use Rattle.std.proofs.Common.{◌≡◌, ℕ, ◌+◌, ◌<◌, ◌≤◌, List, [], ◌∷◌, ◌++◌, length, Bool, true, false, Option, Some, None, refl, sym, ap, ◌∙◌, subst, arith, append_assoc}
use Rattle.std.specs.Prelude.{unwrap_or}
use Rattle.std.specs.List.{AllByRecursion}
use Rattle.my_auth.specs.declared.chain.AuthAsk.{AuthAsk}
use Rattle.my_auth.specs.declared.chain.AuthAsk.TheVariants.{Switch, Whole, Wait}
use Rattle.my_auth.specs.declared.chain.AuthMove.{AuthMove}
use Rattle.my_auth.specs.declared.chain.AuthMove.TheVariants.{Over, Ask, Refuse}
use Rattle.my_auth.specs.declared.chain.AuthRules.{AuthRules}
use Rattle.my_auth.specs.declared.chain.AuthStand.{AuthStand}
use Rattle.my_auth.specs.Chain.{after_ask, move_at, reply_to}
use Rattle.my_auth.specs.Laws.{GoesOn, IfSaid, IsScrambled, Sends, left}
use Rattle.my_auth.proofs.Chains.{ends, scrambled}
use Rattle.my_grammar.proofs.Growth.Known.{is_single_kind, is_then, known_single}
use Rattle.my_grammar.proofs.Growth.SetGrowth.{none}
use Rattle.my_grammar.specs.declared.packet.Packet.{Packet}
use Rattle.my_grammar.specs.declared.spot.Kind.{Kind}
use Rattle.my_grammar.specs.declared.spot.Kind.TheVariants as kinds
use Rattle.my_grammar.specs.Contexts.{is_bad}
use Rattle.my_grammar.specs.Kinds.{auth_kind_by, single_kind}
use Rattle.my_grammar.specs.Response.{response}
use Rattle.my_grammar.specs.Talk.{Talk, Start, Unwelcome, Greeted, Asked, Replied, Changing, Queried, Preparing, Silent, Turn, Client, Server, Fits, FitChain, answers, chain_kind, chained, client_turns, greeted_stand, secret_in, stand_in, stand_next, turns}
use Rattle.auth_laws.specs.Chains.{at_most_one}
use Rattle.auth_laws.specs.Exchanges.{AnswersByScrambles, AnswersTwice, SaysNoMore, answered, chain_in, first_in, said_by_client}
use Rattle.auth_laws.proofs.Chaining.{at_most, said_more, same_rules}

-- the turns of a chain
answers_alone : (o : Option (List ℕ)) (ts : List Turn) → said_by_client (client_turns o ++ ts) ≡ at_most_one o ++ said_by_client ts
answers_alone None ts = refl
answers_alone (Some p) ts = refl

chain_alone : (secret : Option (List ℕ)) (chain : List Packet) (others : List Turn) → said_by_client (chained secret chain others) ≡ answered secret chain ++ said_by_client others
chain_alone secret [] others = refl
chain_alone secret (packet ∷ chain) others =
    let o = answers secret packet.kind packet.payload in
    answers_alone o (Server packet.payload ∷ chained secret chain others) ∙ ap (λ ps. at_most_one o ++ ps) (chain_alone secret chain others) ∙ sym (append_assoc (at_most_one o) (answered secret chain) (said_by_client others))

pub says_no_more : SaysNoMore
says_no_more (Greeted login p offer chain) first e = chain_alone login.password chain (Client (response login p) ∷ Server p ∷ [])
says_no_more (Changing terms secret stand c chain) first e = chain_alone secret chain (Client c ∷ [])
says_no_more _ first e = cc

-- nothing is said to an OK or an ERR
single_silent : (secret : Option (List ℕ)) (k : Kind) (p : List ℕ) → is_single_kind k ≡ true → answers secret k p ≡ None
single_silent secret (kinds.Good status) p e = refl
single_silent secret kinds.Failed p e = refl
single_silent secret kinds.Bad p e = refl
single_silent secret _ p e = absurd (cc)

-- a property of what is said, by the move
module _ (secret : Option (List ℕ)) (stand : AuthStand) (p : List ℕ) (P : Option (List ℕ) → Option AuthStand → Type 0)
    (silent : P None None) (asks : (ask : AuthAsk) → move_at stand p ≡ Ask ask → P (reply_to (unwrap_or secret []) ask p) (Some (after_ask stand ask))) where
  single_over : (k : Kind) → is_single_kind k ≡ true → stand_next k (Some stand) ≡ None
  single_over (kinds.Good status) e = refl
  single_over kinds.Failed e = refl
  single_over kinds.Bad e = refl
  single_over _ e = absurd (cc)

  by_move : (m : AuthMove) → move_at stand p ≡ m → (k : Kind) → auth_kind_by m p ≡ k → is_bad k ≡ false → P (answers secret k p) (stand_next k (Some stand))
  by_move Over is k e good =
      let single : is_single_kind k ≡ true = is_then is_single_kind (single_kind p) k (known_single p) e in
      subst (λ o. P o (stand_next k (Some stand))) (sym (single_silent secret k p single)) (subst (λ o. P None o) (sym (single_over k single)) silent)
  by_move (Ask ask) is k e good = subst (λ (x : Kind). P (answers secret x p) (stand_next x (Some stand))) e (asks ask is)
  by_move (Refuse refusal) is k e good = absurd (none k e good)

-- the stand of a chain, if it goes on, has the rules with which it began; what was said with what can follow is what could follow first
abbrev pub IsLed : AuthStand → ℕ → Option AuthStand → Type 0
IsLed first said None = said ≤ left first
IsLed first said (Some stand) = (stand.rules ≡ first.rules) × (said + left stand ≤ left first)

some_more : (o : Option (List ℕ)) (ps : List (List ℕ)) (n m : ℕ) → n < m → length ps + m ≤ length ps + m → length (at_most_one o ++ ps) + n ≤ length ps + m
some_more None ps n m less all = omega (arith, less)
some_more (Some p) ps n m less all = omega (arith, less)

led_on : (secret : Option (List ℕ)) (first stand : AuthStand) (ps : List (List ℕ)) (k : Kind) (p : List ℕ) → chain_kind (Some stand) p ≡ k → is_bad k ≡ false → IsLed first (length ps) (Some stand)
    → IsLed first (length (at_most_one (answers secret k p) ++ ps)) (stand_next k (Some stand))
led_on secret first stand ps k p e good led =
    by_move secret stand p (λ o later. IsLed first (length (at_most_one o ++ ps)) later) over asked (move_at stand p) refl k e good
  where
    within : length ps + left stand ≤ left first
    within = led.1

    over : length ps ≤ left first
    over = omega (arith, within)

    asked : (ask : AuthAsk) → move_at stand p ≡ Ask ask → IsLed first (length (at_most_one (reply_to (unwrap_or secret []) ask p) ++ ps)) (Some (after_ask stand ask))
    asked ask is =
        let less : left (after_ask stand ask) < left stand = subst (λ (m : AuthMove). GoesOn stand (λ later. left later < left stand) m) is (ends stand p) in
        let more = some_more (reply_to (unwrap_or secret []) ask p) ps (left (after_ask stand ask)) (left stand) less (omega arith) in
        (same_rules stand ask ∙ led.0, omega (arith, within, more))

led : (secret : Option (List ℕ)) (first : AuthStand) (chain : List Packet) → FitChain first chain → IsLed first (length (answered secret chain)) (stand_in first chain)
led secret first [] f = (refl, omega arith)
led secret first (packet ∷ chain) f = by_stand (stand_in first chain) (led secret first chain f.0) f.1
  where
    by_stand : (o : Option AuthStand) → IsLed first (length (answered secret chain)) o → chain_kind o packet.payload ≡ packet.kind → IsLed first (length (answered secret (packet ∷ chain))) (stand_next packet.kind o)
    by_stand None before e = absurd (none packet.kind e f.2)
    by_stand (Some stand) before e = led_on secret first stand (answered secret chain) packet.kind packet.payload e f.2 before

within_left : (first : AuthStand) (said : ℕ) (o : Option AuthStand) → IsLed first said o → said ≤ left first
within_left first said None w = w
within_left first said (Some stand) w = let all = w.1 in omega (arith, all)

chain_short : (secret : Option (List ℕ)) (first : AuthStand) (chain : List Packet) → FitChain first chain → length (answered secret chain) ≤ 2
chain_short secret first chain f =
    let few = within_left first (length (answered secret chain)) (stand_in first chain) (led secret first chain f) in
    let most = at_most first.switched first.decided in
    omega (arith, few, most)

pub answers_twice : AnswersTwice
answers_twice (Greeted login p offer chain) f = chain_short login.password (greeted_stand login offer) chain f.kinds.1
answers_twice (Changing terms secret stand c chain) f = chain_short secret stand chain f.kinds
answers_twice _ f = omega arith

rules_led : (first : AuthStand) (said : ℕ) (o : Option AuthStand) (stand : AuthStand) → o ≡ Some stand → IsLed first said o → stand.rules ≡ first.rules
rules_led first said o stand e w = (subst (IsLed first said) e w).0

-- each answer is a scramble
module _ (secret : Option (List ℕ)) (first : AuthStand) (clear : first.rules.cleartext ≡ false) (local : first.rules.local ≡ false) where
  abbrev password : List ℕ
  password = unwrap_or secret []

  one_scrambled : (stand : AuthStand) → stand.rules ≡ first.rules → (k : Kind) (p : List ℕ) → chain_kind (Some stand) p ≡ k → is_bad k ≡ false → IfSaid (IsScrambled password) (answers secret k p)
  one_scrambled stand rules k p e good = by_move secret stand p (λ o later. IfSaid (IsScrambled password) o) tt
      (λ ask is. subst (Sends password p (IsScrambled password)) is (scrambled password stand p (ap (λ (r : AuthRules). r.cleartext) rules ∙ clear) (ap (λ (r : AuthRules). r.local) rules ∙ local)))
      (move_at stand p) refl k e good

  chain_scrambled : (chain : List Packet) → FitChain first chain → AllByRecursion (IsScrambled password) (answered secret chain)
  chain_scrambled [] f = tt
  chain_scrambled (packet ∷ chain) f =
      said_more (IsScrambled password) (answers secret packet.kind packet.payload) (answered secret chain) (by_stand (stand_in first chain) refl f.1) (chain_scrambled chain f.0)
    where
      by_stand : (o : Option AuthStand) → stand_in first chain ≡ o → chain_kind o packet.payload ≡ packet.kind → IfSaid (IsScrambled password) (answers secret packet.kind packet.payload)
      by_stand None is e = absurd (none packet.kind e f.2)
      by_stand (Some stand) is e =
          one_scrambled stand (rules_led first (length (answered secret chain)) (stand_in first chain) stand is (led secret first chain f.0)) packet.kind packet.payload e f.2

pub answers_by_scrambles : AnswersByScrambles
answers_by_scrambles (Greeted login p offer chain) first f is clear local =
    let same : greeted_stand login offer ≡ first = cc in
    chain_scrambled login.password (greeted_stand login offer) (ap (λ (s : AuthStand). s.rules.cleartext) same ∙ clear) (ap (λ (s : AuthStand). s.rules.local) same ∙ local) chain f.kinds.1
answers_by_scrambles (Changing terms secret stand c chain) first f is clear local =
    let same : stand ≡ first = cc in
    chain_scrambled secret stand (ap (λ (s : AuthStand). s.rules.cleartext) same ∙ clear) (ap (λ (s : AuthStand). s.rules.local) same ∙ local) chain f.kinds
answers_by_scrambles _ first f is clear local = cc
