-- A call that resets the server's session, or gives it another user: once the OK has come no statement is cached, and each one is freed.
use Rattle.std.proofs.Common.{◌≡◌, ℕ, Bool, true, false, cond, Option, Some, None, List, [], ◌∷◌, ◌⊎◌, inl, inr, refl, sym, ap, ◌∙◌}
use Rattle.my_auth.specs.declared.chain.AuthAsk.{AuthAsk}
use Rattle.my_auth.specs.declared.chain.AuthMove.{AuthMove}
use Rattle.my_auth.specs.declared.chain.AuthMove.TheVariants.{Over, Ask, Refuse}
use Rattle.my_auth.specs.declared.chain.AuthStand.{AuthStand}
use Rattle.my_auth.specs.Chain.{after_ask, move_at}
use Rattle.my_command.specs.declared.client.ClientPacket.TheVariants as packets
use Rattle.my_command.specs.Client.Packet.{client_bytes as packet_bytes}
use Rattle.my_flags.specs.Sets.{deprecates_eof}
use Rattle.my_flags.specs.declared.flags.StatusFlags.{StatusFlags}
use Rattle.my_handshake.specs.Version.{version_of}
use Rattle.my_handshake.specs.declared.login.ChangeUser.{ChangeUser as UserChange}
use Rattle.my_reply.specs.declared.err.ErrPacket.{ErrPacket}
use Rattle.my_reply.specs.ErrPacket.{err_at}
use Rattle.my_reply.specs.declared.ok.OkPacket.{OkPacket}
use Rattle.my_reply.specs.OkPacket.{ok_at}
use Rattle.my_grammar.specs.declared.packet.Packet.{Packet}
use Rattle.my_grammar.specs.declared.spot.RowFormat.TheVariants.{Text}
use Rattle.my_grammar.specs.declared.spot.Terms.{Terms}
use Rattle.my_grammar.specs.Account.{change_to}
use Rattle.my_grammar.specs.declared.login.Login.{Login}
use Rattle.my_grammar.specs.declared.spot.Kind.{Kind}
use Rattle.my_grammar.specs.declared.spot.Kind.TheVariants as kinds
use Rattle.my_grammar.specs.Contexts.{is_bad}
use Rattle.my_grammar.specs.Cut.{is_idle, is_over, kind_of}
use Rattle.my_grammar.specs.Growth.{grow}
use Rattle.my_grammar.specs.Kinds.{auth_kind_by, failed_kind, good_kind, kind_by, or_else, single_kind}
use Rattle.my_grammar.specs.Talk.{Talk, Asked, Changing, Replied, chain_spot, stand_in, stand_next}
use Rattle.my_reading.specs.declared.call.Call.{Call}
use Rattle.my_reading.specs.declared.call.Call.TheVariants.{Reset}
use Rattle.my_reading.specs.Calls.{kind_of as kind_of_call}
use Rattle.my_reading.specs.Commands.{change_stand, queried, renewal, renews_by_reset}
use Rattle.my_reading.specs.Course.{Part, All, Command, Clear, Goes, clean, step_of, reads, offered, with_command}
use Rattle.my_reading.specs.Errors.{server_error}
use Rattle.my_reading.specs.Place.{Place, exchanges, facts_at, terms_of, with_exchange, with_talk, without_end}
use Rattle.my_reading.specs.Transactions.{rollback_text}
use Rattle.reading_laws.specs.Kept.{Resets, ByChange, ByReset, prepared_in}
use Rattle.reading_laws.proofs.Cleaning.{Cleans, Reads, cleans_have}
use Rattle.reading_laws.proofs.Having.{Comes, begun_has, either, awaited_have}
use Rattle.reading_laws.proofs.Holding.{Holds, grown_holds, opened_holds, reset_is_over}
use Rattle.reading_laws.proofs.Talks.{is_failed, is_open}
use Rattle.reading_laws.proofs.Reverting.{refused_fine}
use Rattle.reading_laws.proofs.Phases.{AwaitsChange, AwaitsReset, ByCommand, ByRenewal, IsFine, IsResetting, Phase, Readying, Commanding, Awaiting, Emptying, Renewing, is_plain, prepares}

-- where one OK or ERR is awaited, what is neither bad nor an ERR is an OK
good_alone : (q : List ℕ) (k : Kind) → single_kind q ≡ k → is_bad k ≡ false → is_failed k ≡ false → (status : StatusFlags) × (k ≡ kinds.Good status)
good_alone q k e fits good = by_ok (ok_at q) (err_at false q) e
  where
    by_ok : (o : Option OkPacket) (x : Option ErrPacket) → or_else (good_kind o) (failed_kind x) ≡ k → (status : StatusFlags) × (k ≡ kinds.Good status)
    by_ok (Some ok) x e = (ok.status, sym e)
    by_ok None None e = absurd (cc)
    by_ok None (Some err) e = absurd (cc)

-- a request, an OK or an ERR, where a chain stands so
of_move : (m : AuthMove) (q : List ℕ) (k : Kind) → auth_kind_by m q ≡ k → is_bad k ≡ false → is_failed k ≡ false
    → ((ask : AuthAsk) × (k ≡ kinds.Asks ask)) ⊎ ((status : StatusFlags) × (k ≡ kinds.Good status))
of_move Over q k e fits good = inr (good_alone q k e fits good)
of_move (Ask ask) q k e fits good = inl (ask, sym e)
of_move (Refuse refusal) q k e fits good = absurd (cc)

-- a call that resets the server's session
module _ (login : Login) (ps : List Part) (plain : is_plain ps ≡ true) where
  pub offering : (p : Place) (b : Bool) → Holds p → IsFine Reset (offered (clean (Command ∷ All ∷ Clear ∷ ps)) p b)
  offering p true w = Readying Reset Command ByCommand ps (clean (Command ∷ All ∷ Clear ∷ ps)) p Reads plain w
  offering p false w = λ _. w

  module _ (call : Call) (part : Part) (by : Renewing call part) where
    pub readying : (parts : List Part) (p : Place) → Cleans (part ∷ All ∷ Clear ∷ ps) parts → Holds p → IsFine call (step_of login call parts p)
    readying parts p left w = cleans_have login call (part ∷ All ∷ Clear ∷ ps) Holds (IsFine call)
        (λ q h s _ _. h)
        (λ more q here h. Readying call part by ps more q here plain h)
        (λ q h. Commanding call part by ps q plain h)
        (λ q k bytes rest awaited h. grown_holds (λ i. ⊥) q k bytes rest awaited h)
        (λ q bytes rest x awaited h. refused_fine call q.trial (with_talk q (grow kinds.Failed q.talk bytes) rest) (server_error x) (λ s _ _. grown_holds (λ i. ⊥) q kinds.Failed bytes rest awaited h))
        (λ q h. h)
        (λ q terms h. opened_holds (λ i. ⊥) q call (queried terms rollback_text) refl refl h)
        (λ q status h. h)
        parts p left w

  -- the command is sent
  begun : (call : Call) → prepares call ≡ false → (p : Place) → Holds p → (t : Talk) → prepared_in t ≡ None → is_open t ≡ false → IsResetting t
      → IsFine call (with_command call (All ∷ Clear ∷ ps) p (Some t))
  begun call other p w t none shut resets = begun_has (IsFine call) p (λ s _ _. w) call (All ∷ Clear ∷ ps) t
      (Awaiting call other ps (with_exchange p call t) plain (opened_holds (λ i. ⊥) p call t none shut w) resets)

  -- the session is renewed by a reset, or by a change of user
  renewing_begun : (call : Call) → prepares call ≡ false → (p : Place) → Holds p → (by_reset : Bool)
      → IsFine call (with_command call (All ∷ Clear ∷ ps) p (Some (renewal login (terms_of login (exchanges p)) (facts_at login p) p.account by_reset)))
  renewing_begun call other p w true =
      let terms = terms_of login (exchanges p) in
      begun call other p w (Asked terms (packet_bytes packets.ResetConnection)) refl refl (inl (AwaitsReset terms refl))
  renewing_begun call other p w false =
      let terms = terms_of login (exchanges p) in
      let f = facts_at login p in
      let change = change_to login terms.kept f.version f.caching f.nonce p.account in
      let first = change_stand login f in
      begun call other p w (Changing terms p.account.password first (packet_bytes (packets.ChangeUser change)) []) refl refl
      (inl (AwaitsChange terms p.account.password first change [] first refl refl))

  pub commanding : (call : Call) (part : Part) → Renewing call part → (p : Place) → Holds p → IsFine call (step_of login call (part ∷ All ∷ Clear ∷ ps) p)
  commanding call part ByCommand p w =
      let terms = terms_of login (exchanges p) in
      begun Reset refl p w (Asked terms (packet_bytes packets.ResetConnection)) refl refl (inl (AwaitsReset terms refl))
  commanding call part (ByRenewal d other) p w = renewing_begun d other p w (renews_by_reset (kind_of_call d) (version_of (facts_at login p).version))

  -- a request more of the chain, or an OK, and nothing more
  chain_goes : (t : Talk) (terms : Terms) (secret : Option (List ℕ)) (first : AuthStand) (change : UserChange) (chain : List Packet) (stand : AuthStand) (k : Kind) (q : List ℕ)
      → t ≡ Changing terms secret first (packet_bytes (packets.ChangeUser change)) chain → stand_in first chain ≡ Some stand
      → ((ask : AuthAsk) × (k ≡ kinds.Asks ask)) ⊎ ((status : StatusFlags) × (k ≡ kinds.Good status)) → IsResetting (grow k t q)
  chain_goes t terms secret first change chain stand k q e stands (inl a) =
      inl (AwaitsChange terms secret first change (record { kind = k; payload = q } ∷ chain) (after_ask stand a.0) (ap (λ x. grow k x q) e)
      (ap (λ x. stand_next x (stand_in first chain)) a.1 ∙ ap (stand_next (kinds.Asks a.0)) stands))
  chain_goes t terms secret first change chain stand k q e stands (inr g) =
      inr (ByChange terms secret first change chain q g.0 (ap (λ x. grow k x q) e ∙ ap (λ x. Changing terms secret first (packet_bytes (packets.ChangeUser change)) (record { kind = x; payload = q } ∷ chain)) g.1))

  answered : (p : Place) (k : Kind) (q : List ℕ) → Comes p k q → IsResetting p.talk → IsResetting (grow k p.talk q)
  answered p k q c (inr r) =
      let done = reset_is_over p.talk r in
      let awaited = c.awaited in
      absurd (cc)
  answered p k q c (inl (AwaitsReset terms e)) =
      let single : single_kind q ≡ k = sym (ap (λ t. kind_of t q) e) ∙ c.kind_is in
      let ok = good_alone q k single c.fits c.good in
      inr (ByReset terms q ok.0 (ap (λ t. grow k t q) e ∙ ap (λ x. Replied terms (packet_bytes packets.ResetConnection) q x) ok.1))
  answered p k q c (inl (AwaitsChange terms secret first change chain stand e stands)) =
      let here : auth_kind_by (move_at stand q) q ≡ k = sym (ap (λ o. kind_by (chain_spot o) Text (deprecates_eof terms.kept) 0 [] q) stands) ∙ sym (ap (λ t. kind_of t q) e) ∙ c.kind_is in
      chain_goes p.talk terms secret first change chain stand k q e stands (of_move (move_at stand q) q k here c.fits c.good)

  over : (p : Place) → is_over p.talk ≡ true → IsResetting p.talk → Resets p.talk
  over p e (inr r) = r
  over p e (inl (AwaitsReset terms is)) = let awaited : is_over p.talk ≡ false = ap is_over is in absurd (cc)
  over p e (inl (AwaitsChange terms secret first change chain stand is stands)) =
      let awaited : is_over p.talk ≡ false = ap is_over is ∙ ap (λ o. is_idle (chain_spot o)) stands in
      absurd (cc)

  pub awaiting : (call : Call) → prepares call ≡ false → (p : Place) → Holds p → IsResetting p.talk → IsFine call (step_of login call (All ∷ Clear ∷ ps) p)
  awaiting call other p w r = either (IsFine call) p.end_left _ _ (Awaiting call other ps (without_end p) plain w r) (by_over (is_over p.talk) refl)
    where
      again : (k : Kind) (q rest : List ℕ) → Comes p k q → Phase call (All ∷ Clear ∷ ps) (with_talk p (grow k p.talk q) rest)
      again k q rest c = Awaiting call other ps (with_talk p (grow k p.talk q) rest) plain (grown_holds (λ i. ⊥) p k q rest c.awaited w) (answered p k q c r)

      by_over : (b : Bool) → is_over p.talk ≡ b → IsFine call (cond b (Goes (Clear ∷ ps) p) (reads login All (Clear ∷ ps) p))
      by_over true e = Emptying call other ps p plain w (over p e r)
      by_over false e = awaited_have (IsFine call) p (λ s _ _. w) login All (Clear ∷ ps) refl again (λ k q rest row c. again k q rest c)
          (λ q rest x awaited. refused_fine call p.trial (with_talk p (grow kinds.Failed p.talk q) rest) (server_error x) (λ s _ _. grown_holds (λ i. ⊥) p kinds.Failed q rest awaited w))
