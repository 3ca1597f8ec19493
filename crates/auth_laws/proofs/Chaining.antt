-- What follows of one step, and of a chain.
use Rattle.std.proofs.Common.{◌≡◌, ℕ, ◌+◌, ◌<◌, ◌≤◌, List, [], ◌∷◌, ◌++◌, length, Bool, true, false, Option, Some, None, refl, sym, ap, ◌∙◌, subst, arith}
use Rattle.std.specs.List.{AllByRecursion}
use Rattle.my_auth.specs.declared.chain.AuthAsk.{AuthAsk}
use Rattle.my_auth.specs.declared.chain.AuthAsk.TheVariants.{Switch, Whole, Wait}
use Rattle.my_auth.specs.declared.chain.AuthRules.{AuthRules}
use Rattle.my_auth.specs.declared.chain.AuthStand.{AuthStand}
use Rattle.my_auth.specs.declared.chain.AuthMove.{AuthMove}
use Rattle.my_auth.specs.declared.chain.AuthMove.TheVariants.{Over, Ask, Refuse}
use Rattle.my_auth.specs.declared.chain.AuthRefusal.{AuthRefusal}
use Rattle.my_auth.specs.Chain.{after_ask, move_at, reply_to}
use Rattle.my_auth.specs.Laws.{GoesOn, IfSaid, IsScrambled, Sends, left, left_of}
use Rattle.my_auth.proofs.Chains.{ends, scrambled}
use Rattle.auth_laws.specs.Chains.{Did, Ended, IsChain, IsShort, Leaves, Link, PasswordsStay, Refused, Says, StandsAt, at_most_one, did_by, does, sent, sent_by}

-- the rules stay
pub same_rules : (stand : AuthStand) (ask : AuthAsk) → (after_ask stand ask).rules ≡ stand.rules
same_rules stand (Switch plugin) = refl
same_rules stand Whole = refl
same_rules stand Wait = refl

-- what was done leaves less to follow than m, under these rules
abbrev pub LeavesLess : ℕ → AuthRules → Did → Type 0
LeavesLess m rules (Says said later) = (left later < m) × (later.rules ≡ rules)
LeavesLess m rules did = Unit {0}

less_by : (password : List ℕ) (stand : AuthStand) (payload : List ℕ) (m : AuthMove) → GoesOn stand (λ later. left later < left stand) m → LeavesLess (left stand) stand.rules (did_by password stand payload m)
less_by password stand payload Over less = tt
less_by password stand payload (Ask ask) less = (less, same_rules stand ask)
less_by password stand payload (Refuse refusal) less = tt

does_less : (password : List ℕ) (stand : AuthStand) (payload : List ℕ) → LeavesLess (left stand) stand.rules (does password stand payload)
does_less password stand payload = less_by password stand payload (move_at stand payload) (ends stand payload)

-- what was sent, with what can follow, is what could follow first
went_on : (did : Did) (xs : List (List ℕ)) (n m : ℕ) (rules : AuthRules) (stand : AuthStand) → LeavesLess m rules did → Leaves did stand → length xs + m ≤ n → length (sent_by did ++ xs) + left stand ≤ n
went_on (Says None later) xs n m rules stand less leaves so = let here = less.0 in omega (arith, here, so, ap left leaves)
went_on (Says (Some bytes) later) xs n m rules stand less leaves so = let here = less.0 in omega (arith, here, so, ap left leaves)
went_on Ended xs n m rules stand less leaves so = absurd leaves
went_on (Refused refusal) xs n m rules stand less leaves so = absurd leaves

did_less : (password : List ℕ) (first : AuthStand) (l : Link) (ls : List Link) (c : IsChain password first (l ∷ ls)) → LeavesLess (left c.1.0) c.1.0.rules l.did
did_less password first l ls c = subst (LeavesLess (left c.1.0) c.1.0.rules) (sym c.1.2) (does_less password c.1.0 l.payload)

so_far : (password : List ℕ) (first : AuthStand) (ls : List Link) → IsChain password first ls → (stand : AuthStand) → StandsAt first ls stand → length (sent ls) + left stand ≤ left first
so_far password first [] c stand at = omega (arith, ap left at)
so_far password first (l ∷ ls) c stand at =
    let before = c.1.0 in
    went_on l.did (sent ls) (left first) (left before) before.rules stand (did_less password first l ls c) at (so_far password first ls c.0 before c.1.1)

ended : (did : Did) (xs : List (List ℕ)) (n m : ℕ) (rules : AuthRules) → LeavesLess m rules did → length xs + m ≤ n → length (sent_by did ++ xs) ≤ n
ended (Says None later) xs n m rules less so = omega (arith, so)
ended (Says (Some bytes) later) xs n m rules less so = let here = less.0 in omega (arith, here, so)
ended Ended xs n m rules less so = omega (arith, so)
ended (Refused refusal) xs n m rules less so = omega (arith, so)

pub at_most : (switched decided : Bool) → left_of switched decided ≤ 2
at_most switched true = omega arith
at_most true false = omega arith
at_most false false = omega arith

pub short : IsShort
short password first [] c = omega arith
short password first (l ∷ ls) c =
    let before = c.1.0 in
    let most : left first ≤ 2 = at_most first.switched first.decided in
    let within : length (sent_by l.did ++ sent ls) ≤ left first = ended l.did (sent ls) (left first) (left before) before.rules (did_less password first l ls c) (so_far password first ls c.0 before c.1.1) in
    omega (arith, within, most)

-- the rules of a chain are those with which it began
left_rules : (did : Did) (m : ℕ) (rules : AuthRules) (stand : AuthStand) → LeavesLess m rules did → Leaves did stand → stand.rules ≡ rules
left_rules (Says said later) m rules stand less leaves = ap (λ (s : AuthStand). s.rules) leaves ∙ less.1
left_rules Ended m rules stand less leaves = absurd leaves
left_rules (Refused refusal) m rules stand less leaves = absurd leaves

pub rules_at : (password : List ℕ) (first : AuthStand) (ls : List Link) → IsChain password first ls → (stand : AuthStand) → StandsAt first ls stand → stand.rules ≡ first.rules
rules_at password first [] c stand at = ap (λ (s : AuthStand). s.rules) at
rules_at password first (l ∷ ls) c stand at =
    left_rules l.did (left c.1.0) c.1.0.rules stand (did_less password first l ls c) at ∙ rules_at password first ls c.0 c.1.0 c.1.1

-- each of what is sent is a scramble
pub said_more : (P : List ℕ → Type 0) (said : Option (List ℕ)) (xs : List (List ℕ)) → IfSaid P said → AllByRecursion P xs → AllByRecursion P (at_most_one said ++ xs)
said_more P None xs p ps = ps
said_more P (Some bytes) xs p ps = (p, ps)

all_more : (P : List ℕ → Type 0) (password : List ℕ) (stand : AuthStand) (payload : List ℕ) (m : AuthMove) (xs : List (List ℕ)) → Sends password payload P m → AllByRecursion P xs → AllByRecursion P (sent_by (did_by password stand payload m) ++ xs)
all_more P password stand payload Over xs p ps = ps
all_more P password stand payload (Ask ask) xs p ps = said_more P (reply_to password ask payload) xs p ps
all_more P password stand payload (Refuse refusal) xs p ps = ps

pub passwords_stay : PasswordsStay
passwords_stay password first [] clear local c = tt
passwords_stay password first (l ∷ ls) clear local c =
    let here = c.1.0 in
    let rules : here.rules ≡ first.rules = rules_at password first ls c.0 here c.1.1 in
    subst (λ (did : Did). AllByRecursion (IsScrambled password) (sent_by did ++ sent ls)) (sym c.1.2)
    (all_more (IsScrambled password) password here l.payload (move_at here l.payload) (sent ls)
    (scrambled password here l.payload (ap (λ (r : AuthRules). r.cleartext) rules ∙ clear) (ap (λ (r : AuthRules). r.local) rules ∙ local))
    (passwords_stay password first ls clear local c.0))
