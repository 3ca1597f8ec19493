-- What a chain sends, and that it ends.
use Rattle.std.proofs.Common.{refl, ◌≡◌, ℕ, ◌<◌, List, [], ◌∷◌, Bool, true, false, ◌∙◌, sym, ap, subst, arith}
use Rattle.std.proofs.lemmas.Bool.{false≢true}
use Rattle.std.specs.Prelude.{Option, Some, None, ◌==◌, ◌||◌, if◌then◌else◌}
use Rattle.my_handshake.specs.declared.switch.SwitchRequest.{SwitchRequest}
use Rattle.my_handshake.specs.declared.switch.MoreData.{MoreData}
use Rattle.my_handshake.specs.SwitchRequest.{switch_at, more_data_at}
use Rattle.my_auth.specs.declared.plugin.AuthPlugin.{AuthPlugin}
use Rattle.my_auth.specs.declared.plugin.AuthPlugin.TheVariants.{Native, Caching, Clear, Old}
use Rattle.my_auth.specs.declared.chain.AuthRules.{AuthRules}
use Rattle.my_auth.specs.declared.chain.AuthStand.{AuthStand}
use Rattle.my_auth.specs.declared.chain.AuthMove.{AuthMove}
use Rattle.my_auth.specs.declared.chain.AuthMove.TheVariants.{Over, Ask, Refuse}
use Rattle.my_auth.specs.declared.chain.AuthRefusal.{AuthRefusal}
use Rattle.my_auth.specs.Plugins.{plugin_named}
use Rattle.my_auth.specs.Chain.{after_ask, asked_for, caching_by, is_caching, move_at, move_by, nonce_in, switched_by}
use Rattle.my_auth.specs.Laws.{ChainsEnd, GoesOn, IsScrambled, KeepsThePassword, Natively, Cachingly, Sends, left, left_of}

-- what holds of both cases, each where its test is so
pub by_if : {X : Type 0} (P : X → Type 0) (b : Bool) (x y : X) → (b ≡ true → P x) → (b ≡ false → P y) → P (if b then x else y)
by_if P true x y f g = f refl
by_if P false x y f g = g refl

module _ (password payload : List ℕ) (rules : AuthRules) (clear : rules.cleartext ≡ false) (local : rules.local ≡ false) where
  abbrev pub Fine : AuthMove → Type 0
  Fine m = Sends password payload (IsScrambled password) m

  asked_fine : (found : Option AuthPlugin) → Fine (asked_for found rules)
  asked_fine None = tt
  asked_fine (Some Native) = Natively (nonce_in payload) refl
  asked_fine (Some Caching) = Cachingly (nonce_in payload) refl
  asked_fine (Some Clear) = by_if Fine rules.cleartext _ _ (λ e. absurd (false≢true (sym clear ∙ e))) (λ e. tt)
  asked_fine (Some Old) = by_if Fine rules.secure _ _ (λ e. tt) (λ e. tt)

  switched_fine : (found : Option SwitchRequest) → Fine (switched_by found rules)
  switched_fine None = tt
  switched_fine (Some s) = asked_fine (plugin_named s.plugin)

  caching_fine : (found : Option MoreData) → Fine (caching_by found rules)
  caching_fine None = tt
  caching_fine (Some more) = by_if Fine (more.kind == 3) _ _ (λ e. tt) (λ e. by_if Fine (more.kind == 4) _ _
      (λ f. by_if Fine rules.local _ _ (λ g. absurd (false≢true (sym local ∙ g))) (λ g. tt)) (λ f. tt))

-- by the first byte, and by what is asked for
pub by_head : (P : AuthMove → Type 0) (head : ℕ) (stand : AuthStand) (payload : List ℕ) → ((r : AuthRefusal) → P (Refuse r)) → P Over
    → (stand.decided ≡ false → stand.switched ≡ false → P (switched_by (switch_at payload) stand.rules))
    → (stand.decided ≡ false → is_caching stand.plugin ≡ true → P (caching_by (more_data_at payload) stand.rules))
    → P (move_by head stand payload)
by_head P head stand payload refused over switched cached = by_if P ((head == 0x00) || (head == 0xFF)) _ _ (λ e. over)
    (λ e. by_if P stand.decided _ _ (λ f. refused _)
    (λ going. by_if P (head == 0xFE) _ _ (λ g. by_if P stand.switched _ _ (λ h. refused _) (λ first. switched going first))
    (λ g. by_if P (head == 0x01) _ _
    (λ h. by_if P (is_caching stand.plugin) _ _ (λ i. cached going i) (λ i. refused _)) (λ h. refused _))))

pub scrambled : KeepsThePassword
scrambled password stand [] clear local = tt
scrambled password stand (head ∷ rest) clear local =
    by_head (Sends password (head ∷ rest) (IsScrambled password)) head stand (head ∷ rest) (λ r. tt) tt
    (λ e f. switched_fine password (head ∷ rest) stand.rules clear local (switch_at (head ∷ rest)))
    (λ e f. caching_fine password (head ∷ rest) stand.rules clear local (more_data_at (head ∷ rest)))

-- less can follow of each step
module _ (stand : AuthStand) where
  abbrev pub Less : AuthMove → Type 0
  Less m = GoesOn stand (λ later. left later < left stand) m

  both_left : stand.decided ≡ false → stand.switched ≡ false → left stand ≡ 2
  both_left going first = ap (λ b. left_of stand.switched b) going ∙ ap (λ b. left_of b false) first

  some_left : stand.decided ≡ false → 0 < left stand
  some_left going = subst (λ b. 0 < left_of stand.switched b) (sym going) (some stand.switched)
    where
      some : (b : Bool) → 0 < left_of b false
      some true = omega arith
      some false = omega arith

  asked_less : (found : Option AuthPlugin) → left stand ≡ 2 → Less (asked_for found stand.rules)
  asked_less None both = tt
  asked_less (Some Native) both = omega (arith, both)
  asked_less (Some Caching) both = omega (arith, both)
  asked_less (Some Clear) both = by_if Less stand.rules.cleartext _ _ (λ e. omega (arith, both)) (λ e. tt)
  asked_less (Some Old) both = by_if Less stand.rules.secure _ _ (λ e. tt) (λ e. tt)

  switched_less : (found : Option SwitchRequest) → left stand ≡ 2 → Less (switched_by found stand.rules)
  switched_less None both = tt
  switched_less (Some s) both = asked_less (plugin_named s.plugin) both

  caching_less : (found : Option MoreData) → stand.decided ≡ false → Less (caching_by found stand.rules)
  caching_less None going = tt
  caching_less (Some more) going = by_if Less (more.kind == 3) _ _ (λ e. some_left going) (λ e. by_if Less (more.kind == 4) _ _
      (λ f. by_if Less stand.rules.local _ _ (λ g. some_left going) (λ g. tt)) (λ f. tt))

  headed_less : (head : ℕ) (payload : List ℕ) → Less (move_by head stand payload)
  headed_less head payload = by_head Less head stand payload (λ r. tt) tt
      (λ going first. switched_less (switch_at payload) (both_left going first)) (λ going i. caching_less (more_data_at payload) going)

pub ends : ChainsEnd
ends stand [] = tt
ends stand (head ∷ rest) = headed_less stand head (head ∷ rest)
