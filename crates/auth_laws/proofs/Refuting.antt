-- Chains that no client does, and two that it does.
use Rattle.std.proofs.Common.{◌≡◌, ℕ, List, [], ◌∷◌, ◌++◌, Bool, true, false, codes, Option, Some, None, refl, sym, ap, ◌∙◌, subst}
use Rattle.std.specs.Prelude.{◌==◌, ◌||◌, if◌then◌else◌}
use Rattle.std.specs.List.{AllByRecursion}
use Rattle.std.proofs.lemmas.Bool.{false≢true}
use Rattle.my_handshake.specs.declared.switch.SwitchRequest.{SwitchRequest}
use Rattle.my_handshake.specs.declared.switch.MoreData.{MoreData}
use Rattle.my_handshake.specs.SwitchRequest.{switch_at, more_data_at}
use Rattle.my_auth.specs.declared.plugin.AuthPlugin.{AuthPlugin}
use Rattle.my_auth.specs.declared.plugin.AuthPlugin.TheVariants.{Native, Caching, Clear, Old}
use Rattle.my_auth.specs.declared.chain.AuthRules.{AuthRules}
use Rattle.my_auth.specs.declared.chain.AuthStand.{AuthStand}
use Rattle.my_auth.specs.declared.chain.AuthMove.{AuthMove}
use Rattle.my_auth.specs.declared.chain.AuthMove.TheVariants.{Over, Ask, Refuse}
use Rattle.my_auth.specs.declared.chain.AuthRefusal.{AuthRefusal}
use Rattle.my_auth.specs.Plugins.{plugin_named}
use Rattle.my_auth.specs.Scrambles.{answer}
use Rattle.my_auth.specs.Chain.{adds, asked_for, nonce_of, caching_by, is_caching, first_stand, move_at, switched_by, switches}
use Rattle.my_auth.specs.Laws.{IsScrambled, Natively, Cachingly}
use Rattle.my_auth.proofs.Chains.{by_head, by_if}
use Rattle.auth_laws.specs.Chains.{Did, Ended, IsChain, Leaves, Link, Refused, Says, did_by, does, sent}
use Rattle.auth_laws.specs.Right.{CachedLogin, SwitchedLogin}
use Rattle.auth_laws.specs.Wrong.{NoClearPassword, NoEarlierNonce, NoEmptyScramble, NoFullPassword, NoGoingOn, NoSecondSwitch}
use Rattle.auth_laws.proofs.Chaining.{passwords_stay, rules_at}

-- what is done has the property that each step has
done : (P : Did → Type 0) (password : List ℕ) (stand : AuthStand) (l : Link) (payload : List ℕ) (did : Did) → l.did ≡ does password stand l.payload → l.payload ≡ payload → l.did ≡ did → P (does password stand payload) → P did
done P password stand l payload did does_is is same p = subst P (sym (does_is ∙ ap (does password stand) is) ∙ same) p

-- what is done with a payload that asks for another plugin, and with one of data
module _ (P : Did → Type 0) (password : List ℕ) (stand : AuthStand) (rest : List ℕ) (refused : (r : AuthRefusal) → P (Refused r)) where
  abbrev pub By : List ℕ → AuthMove → Type 0
  By payload m = P (did_by password stand payload m)

  pub asks : By (0xFE ∷ rest) (switches stand (0xFE ∷ rest)) → P (does password stand (0xFE ∷ rest))
  asks here = by_if (By (0xFE ∷ rest)) stand.decided _ _ (λ e. refused _) (λ e. here)

  pub has_more : By (0x01 ∷ rest) (adds stand (0x01 ∷ rest)) → P (does password stand (0x01 ∷ rest))
  has_more here = by_if (By (0x01 ∷ rest)) stand.decided _ _ (λ e. refused _) (λ e. here)

-- nothing is sent
abbrev pub NoAnswer : Did → Type 0
NoAnswer (Says (Some bytes) later) = ⊥
NoAnswer did = Unit {0}

-- the server switched the plugin
abbrev pub Switched : Did → Type 0
Switched (Says said later) = later.switched ≡ true
Switched did = Unit {0}

module _ (password : List ℕ) (stand : AuthStand) (rest : List ℕ) where
  abbrev switch : List ℕ
  switch = 0xFE ∷ rest

  asked_switched : (found : Option AuthPlugin) → Switched (did_by password stand switch (asked_for found stand.rules))
  asked_switched None = tt
  asked_switched (Some Native) = refl
  asked_switched (Some Caching) = refl
  asked_switched (Some Clear) = by_if (λ m. Switched (did_by password stand switch m)) stand.rules.cleartext _ _ (λ e. refl) (λ e. tt)
  asked_switched (Some Old) = by_if (λ m. Switched (did_by password stand switch m)) stand.rules.secure _ _ (λ e. tt) (λ e. tt)

  found_switched : (found : Option SwitchRequest) → Switched (did_by password stand switch (switched_by found stand.rules))
  found_switched None = tt
  found_switched (Some s) = asked_switched (plugin_named s.plugin)

  is_switched : Switched (does password stand switch)
  is_switched = asks Switched password stand rest (λ r. tt) (by_if (λ m. Switched (did_by password stand switch m)) stand.switched _ _ (λ e. tt) (λ e. found_switched (switch_at switch)))

  not_again : stand.switched ≡ true → NoAnswer (does password stand switch)
  not_again e = asks NoAnswer password stand rest (λ r. tt) (by_if (λ m. NoAnswer (did_by password stand switch m)) stand.switched _ _ (λ f. tt) (λ f. absurd (false≢true (sym f ∙ e))))

-- where the chain stands after an answer
after : (did : Did) (said : Option (List ℕ)) (s stand : AuthStand) → did ≡ Says said s → Leaves did stand → stand ≡ s
after did said s stand e leaves = subst (λ d. Leaves d stand) e leaves

pub no_second_switch : NoSecondSwitch
no_second_switch password first s t l m ls a b x y is did asked again c =
    let before = c.0.1 in
    let now = c.1 in
    let switched : s.switched ≡ true = done Switched password before.0 l (0xFE ∷ a) (Says (Some x) s) before.2 is did (is_switched password before.0 a) in
    let here : now.0 ≡ s = after l.did (Some x) s now.0 did now.1 in
    done NoAnswer password now.0 m (0xFE ∷ b) (Says (Some y) t) now.2 asked again (not_again password now.0 b (ap (λ (q : AuthStand). q.switched) here ∙ switched))

-- what is done with a switch to this plugin
switches_to : (P : Did → Type 0) (password : List ℕ) (stand : AuthStand) (rest : List ℕ) (request : SwitchRequest) (plugin : AuthPlugin) → switch_at (0xFE ∷ rest) ≡ Some request → plugin_named request.plugin ≡ Some plugin
    → ((r : AuthRefusal) → P (Refused r)) → P (did_by password stand (0xFE ∷ rest) (asked_for (Some plugin) stand.rules)) → P (does password stand (0xFE ∷ rest))
switches_to P password stand rest request plugin read named refused here =
    asks P password stand rest refused (by_if (λ m. P (did_by password stand (0xFE ∷ rest) m)) stand.switched _ _ (λ e. refused _) (λ e.
    subst (λ o. P (did_by password stand (0xFE ∷ rest) (switched_by o stand.rules))) (sym read) (subst (λ p. P (did_by password stand (0xFE ∷ rest) (asked_for p stand.rules))) (sym named) here)))

pub no_clear_password : NoClearPassword
no_clear_password password first t l ls request a x clear is read named did c =
    let here = c.1 in
    let same : here.0.rules.cleartext ≡ false = ap (λ (r : AuthRules). r.cleartext) (rules_at password first ls c.0 here.0 here.1) ∙ clear in
    done NoAnswer password here.0 l (0xFE ∷ a) (Says (Some x) t) here.2 is did
    (switches_to NoAnswer password here.0 a request Clear (sym (ap switch_at is) ∙ read) named (λ r. tt)
    (by_if (λ m. NoAnswer (did_by password here.0 (0xFE ∷ a) m)) here.0.rules.cleartext _ _ (λ e. absurd (false≢true (sym same ∙ e))) (λ e. tt)))

-- by this answer, where anything is sent
abbrev pub SentBy : List ℕ → Did → Type 0
SentBy bytes (Says (Some x) later) = x ≡ bytes
SentBy bytes did = Unit {0}

-- the nonce of a switch is that of its request
nonce_sent : (password : List ℕ) (stand : AuthStand) (rest : List ℕ) (request : SwitchRequest) → switch_at (0xFE ∷ rest) ≡ Some request
    → SentBy (answer Native password request.nonce) (did_by password stand (0xFE ∷ rest) (asked_for (Some Native) stand.rules))
nonce_sent password stand rest request read = ap (λ (o : Option SwitchRequest). answer Native password (nonce_of o)) read

pub no_earlier_nonce : NoEarlierNonce
no_earlier_nonce password first t l ls request a x is read named did other c =
    let here = c.1 in
    let read_here : switch_at (0xFE ∷ a) ≡ Some request = sym (ap switch_at is) ∙ read in
    other (done (SentBy (answer Native password request.nonce)) password here.0 l (0xFE ∷ a) (Says (Some x) t) here.2 is did
    (switches_to (SentBy (answer Native password request.nonce)) password here.0 a request Native read_here named (λ r. tt) (nonce_sent password here.0 a request read_here)))

module _ (password : List ℕ) (stand : AuthStand) (payload : List ℕ) where
  caching_silent : (found : Option MoreData) → stand.rules.local ≡ false → NoAnswer (did_by password stand payload (caching_by found stand.rules))
  caching_silent None far = tt
  caching_silent (Some more) far = by_if (λ m. NoAnswer (did_by password stand payload m)) (more.kind == 3) _ _ (λ e. tt) (λ e. by_if (λ m. NoAnswer (did_by password stand payload m)) (more.kind == 4) _ _
      (λ f. by_if (λ m. NoAnswer (did_by password stand payload m)) stand.rules.local _ _ (λ g. absurd (false≢true (sym far ∙ g))) (λ g. tt)) (λ f. tt))

pub no_full_password : NoFullPassword
no_full_password password first t l ls a x far is did c =
    let here = c.1 in
    let same : here.0.rules.local ≡ false = ap (λ (r : AuthRules). r.local) (rules_at password first ls c.0 here.0 here.1) ∙ far in
    done NoAnswer password here.0 l (0x01 ∷ a) (Says (Some x) t) here.2 is did
    (has_more NoAnswer password here.0 a (λ r. tt) (by_if (λ m. NoAnswer (did_by password here.0 (0x01 ∷ a) m)) (is_caching here.0.plugin) _ _ (λ e. caching_silent password here.0 (0x01 ∷ a) (more_data_at (0x01 ∷ a)) same) (λ e. tt)))

-- without a password a scramble is empty
none_scrambled : (bytes : List ℕ) → IsScrambled [] bytes → bytes ≡ []
none_scrambled bytes (Natively nonce e) = e
none_scrambled bytes (Cachingly nonce e) = e

all_empty : (xs : List (List ℕ)) → AllByRecursion (IsScrambled []) xs → AllByRecursion (λ (bytes : List ℕ). bytes ≡ []) xs
all_empty [] ps = tt
all_empty (x ∷ xs) ps = (none_scrambled x ps.0, all_empty xs ps.1)

pub no_empty_scramble : NoEmptyScramble
no_empty_scramble first ls clear local c = all_empty (sent ls) (passwords_stay [] first ls clear local c)

-- where nothing is said the chain is decided
abbrev pub Decided : Did → Type 0
Decided (Says None later) = later.decided ≡ true
Decided did = Unit {0}

module _ (password : List ℕ) (stand : AuthStand) (payload : List ℕ) where
  abbrev IsSo : AuthMove → Type 0
  IsSo m = Decided (did_by password stand payload m)

  asked_decided : (found : Option AuthPlugin) → IsSo (asked_for found stand.rules)
  asked_decided None = tt
  asked_decided (Some Native) = tt
  asked_decided (Some Caching) = tt
  asked_decided (Some Clear) = by_if IsSo stand.rules.cleartext _ _ (λ e. tt) (λ e. tt)
  asked_decided (Some Old) = by_if IsSo stand.rules.secure _ _ (λ e. tt) (λ e. tt)

  found_decided : (found : Option SwitchRequest) → IsSo (switched_by found stand.rules)
  found_decided None = tt
  found_decided (Some s) = asked_decided (plugin_named s.plugin)

  caching_decided : (found : Option MoreData) → IsSo (caching_by found stand.rules)
  caching_decided None = tt
  caching_decided (Some more) = by_if IsSo (more.kind == 3) _ _ (λ e. refl) (λ e. by_if IsSo (more.kind == 4) _ _
      (λ f. by_if IsSo stand.rules.local _ _ (λ g. tt) (λ g. tt)) (λ f. tt))

is_decided : (password : List ℕ) (stand : AuthStand) (payload : List ℕ) → Decided (does password stand payload)
is_decided password stand [] = tt
is_decided password stand (head ∷ rest) = by_head (IsSo password stand (head ∷ rest)) head stand (head ∷ rest) (λ r. tt) tt
    (λ e f. found_decided password stand (head ∷ rest) (switch_at (head ∷ rest))) (λ e f. caching_decided password stand (head ∷ rest) (more_data_at (head ∷ rest)))

silent_then : (password : List ℕ) (stand : AuthStand) (payload : List ℕ) → stand.decided ≡ true → NoAnswer (does password stand payload)
silent_then password stand [] e = tt
silent_then password stand (head ∷ rest) e = by_head (λ m. NoAnswer (did_by password stand (head ∷ rest) m)) head stand (head ∷ rest) (λ r. tt) tt
    (λ f g. absurd (false≢true (sym f ∙ e))) (λ f g. absurd (false≢true (sym f ∙ e)))

pub no_going_on : NoGoingOn
no_going_on password first s t l m ls x did again c =
    let before = c.0.1 in
    let now = c.1 in
    let decided : s.decided ≡ true = done Decided password before.0 l l.payload (Says None s) before.2 refl did (is_decided password before.0 l.payload) in
    let here : now.0 ≡ s = after l.did None s now.0 did now.1 in
    done NoAnswer password now.0 m m.payload (Says (Some x) t) now.2 refl again (silent_then password now.0 m.payload (ap (λ (q : AuthStand). q.decided) here ∙ decided))

pub switched_login : SwitchedLogin
switched_login rules password = ((tt, (_, refl, refl)), (_, refl, refl))

pub cached_login : CachedLogin
cached_login rules password = ((tt, (_, refl, refl)), (_, refl, refl))
