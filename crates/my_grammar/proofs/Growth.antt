-- One payload more in an exchange.
pub mod Known
pub mod ReplyGrowth
pub mod SetGrowth
use Rattle.std.proofs.Common.{◌≡◌, ℕ, ◌≤◌, List, [], ◌∷◌, ◌++◌, length, Bool, true, false, Option, Some, None, refl, sym, ap, ◌∙◌, subst}
use Rattle.std.proofs.lemmas.List.{append-nil}
use Rattle.std.specs.List.{AllByRecursion}
use Rattle.my_flags.specs.declared.flags.CapabilityFlags.{CapabilityFlags}
use Rattle.my_frame.specs.Chunks.{number_after_payload}
use Rattle.my_reply.specs.declared.column.Column.{Column as ColumnPacket}
use Rattle.my_auth.specs.declared.chain.AuthMove.{AuthMove}
use Rattle.my_auth.specs.declared.chain.AuthMove.TheVariants.{Over, Ask, Refuse}
use Rattle.my_auth.specs.declared.chain.AuthStand.{AuthStand}
use Rattle.my_auth.specs.Chain.{move_at}
use Rattle.my_grammar.specs.declared.spot.Offer.{Offer}
use Rattle.my_flags.specs.Sets.{deprecates_eof}
use Rattle.my_grammar.specs.declared.login.Login.{Login}
use Rattle.my_grammar.specs.declared.spot.RowFormat.{RowFormat}
use Rattle.my_grammar.specs.declared.spot.RowFormat.TheVariants as formats
use Rattle.my_grammar.specs.declared.spot.Spot.{Spot}
use Rattle.my_grammar.specs.declared.spot.Kind.{Kind}
use Rattle.my_grammar.specs.declared.spot.Kind.TheVariants.{Greets, Asks, Good, Failed, Count, Column, ColumnsDone, Row, End, Prepared, Parameter, Field, Bad}
use Rattle.my_grammar.specs.declared.spot.Terms.{Terms}
use Rattle.my_grammar.specs.declared.spot.Context.{Context}
use Rattle.my_grammar.specs.Contexts.{columns_after, is_bad, kept_after, spot_after}
use Rattle.my_grammar.specs.Kinds.{auth_kind_by, greeting_kind, single_kind, kind_by, kind_there}
use Rattle.my_grammar.specs.Sets.{Sets, NoSets, Packet, asking_in, packets_in, spot_in, columns_in, format_in, format_of, described_in, grow_sets}
use Rattle.my_grammar.specs.Prepares.{Reply, packets_in_reply, spot_in_reply, grow_reply}
use Rattle.my_grammar.specs.Talk.{Talk, Start, Unwelcome, Greeted, Asked, Replied, Changing, Queried, Preparing, Silent, Turn, Client, Server, answers, chain_kind, chain_spot, client_bytes, client_turns, commands_by, context_of, default_limit, described, Fits, greeted_stand, greeted_terms, limit_of, number_of, packets_of, says, served, server_bytes, stand_in, stand_next, turns}
use Rattle.my_grammar.specs.Growth.{Grows, Reads, bytes_said, described_after, number_said}
use Rattle.my_grammar.proofs.Growth.Known.{is_greeting_kind, is_single_kind, known_greeting, known_single, is_then}
use Rattle.my_grammar.proofs.Growth.SetGrowth.{grows_sets, calm, none}
use Rattle.my_grammar.proofs.Growth.ReplyGrowth.{grows_reply}

-- the number, and each side's bytes
reads_by : (login : Login) (secret : Option (List ℕ)) (k : Kind) (p : List ℕ) (ts : List Turn) (o : Option (List ℕ)) → says login secret k p ≡ o → Reads login secret k p ts
reads_by login secret k p ts None e = record {
  number = ap (λ o. number_of (client_turns o ++ Server p ∷ ts)) e ∙ sym (ap (λ o. number_said o (number_after_payload p (number_of ts))) e);
  server = ap (λ o. server_bytes (client_turns o ++ Server p ∷ ts)) e;
  client = ap (λ o. client_bytes (client_turns o ++ Server p ∷ ts)) e ∙ sym (append-nil _) ∙ sym (ap (λ o. client_bytes ts ++ bytes_said o (number_after_payload p (number_of ts))) e);
}
reads_by login secret k p ts (Some q) e = record {
  number = ap (λ o. number_of (client_turns o ++ Server p ∷ ts)) e ∙ sym (ap (λ o. number_said o (number_after_payload p (number_of ts))) e);
  server = ap (λ o. server_bytes (client_turns o ++ Server p ∷ ts)) e;
  client = ap (λ o. client_bytes (client_turns o ++ Server p ∷ ts)) e ∙ sym (ap (λ o. client_bytes ts ++ bytes_said o (number_after_payload p (number_of ts))) e);
}

pub reads : (login : Login) (secret : Option (List ℕ)) (k : Kind) (p : List ℕ) (ts : List Turn) → Reads login secret k p ts
reads login secret k p ts = reads_by login secret k p ts (says login secret k p) refl

-- a payload more within the limit
one_more : (t u : Talk) (k : Kind) (p : List ℕ) → packets_of u ≡ record { kind = k; payload = p } ∷ packets_of t → limit_of u ≡ limit_of t → length p ≤ limit_of t → AllByRecursion (λ packet. length packet.payload ≤ limit_of t) (packets_of t) → AllByRecursion (λ packet. length packet.payload ≤ limit_of u) (packets_of u)
one_more t u k p packets limit short all =
    let P : ℕ → List Packet → Type 0 = λ n ps. AllByRecursion (λ packet. length packet.payload ≤ n) ps in
    subst (λ n. P n (packets_of u)) (sym limit) (subst (λ ps. P (limit_of t) ps) (sym packets) (short, all))

grows_start : (login : Login) (k : Kind) (p : List ℕ) → greeting_kind p ≡ k → is_greeting_kind k ≡ true → is_bad k ≡ false → length p ≤ limit_of (Start login) → Grows (Start login) k p
grows_start login (Greets c) p e i b short = record { context = refl; described_is = refl; packets_are = refl; turns_are = λ l. refl; login_is = λ l. refl; secret_is = refl; fits = record { kinds = (e, tt); within = (short, tt) }; origin_is = refl }
grows_start login (Asks ask) p e i b short = cc
grows_start login (Good status) p e i b short = cc
grows_start login Failed p e i b short = record { context = refl; described_is = refl; packets_are = refl; turns_are = λ l. refl; login_is = λ l. refl; secret_is = refl; fits = record { kinds = e; within = (short, tt) }; origin_is = refl }
grows_start login (Count n) p e i b short = cc
grows_start login Column p e i b short = cc
grows_start login ColumnsDone p e i b short = cc
grows_start login Row p e i b short = cc
grows_start login (End status) p e i b short = cc
grows_start login (Prepared params columns) p e i b short = cc
grows_start login Parameter p e i b short = cc
grows_start login Field p e i b short = cc
grows_start login Bad p e i b short = cc

-- what a payload of a chain is: a request, or the OK or ERR that ends it
abbrev pub is_chain_kind : Kind → Bool
is_chain_kind (Asks ask) = true
is_chain_kind (Good status) = true
is_chain_kind Failed = true
is_chain_kind Bad = true
is_chain_kind k = false

of_single : (k : Kind) → is_single_kind k ≡ true → is_chain_kind k ≡ true
of_single (Greets c) e = cc
of_single (Asks ask) e = refl
of_single (Good status) e = refl
of_single Failed e = refl
of_single (Count n) e = cc
of_single Column e = cc
of_single ColumnsDone e = cc
of_single Row e = cc
of_single (End status) e = cc
of_single (Prepared params columns) e = cc
of_single Parameter e = cc
of_single Field e = cc
of_single Bad e = refl

known_move : (m : AuthMove) (p : List ℕ) → is_chain_kind (auth_kind_by m p) ≡ true
known_move Over p = of_single (single_kind p) (known_single p)
known_move (Ask ask) p = refl
known_move (Refuse refusal) p = refl

pub known_chain : (o : Option AuthStand) (p : List ℕ) → is_chain_kind (chain_kind o p) ≡ true
known_chain None p = refl
known_chain (Some stand) p = known_move (move_at stand p) p

-- the kind by the place is that by the chain
pub chain_kind_is : (o : Option AuthStand) (f : RowFormat) (d : Bool) (n : ℕ) (cs : List ColumnPacket) (p : List ℕ) → kind_by (chain_spot o) f d n cs p ≡ chain_kind o p
chain_kind_is None f d n cs p = refl
chain_kind_is (Some stand) f d n cs p = refl

-- What a payload of a chain does to its context.
record GrowsChain (d : Bool) (kept : CapabilityFlags) (o : Option AuthStand) (k : Kind) (p : List ℕ) : Type 0 where
  spot : chain_spot (stand_next k o) ≡ spot_after d (chain_spot o) k
  columns : columns_after 0 k ≡ 0
  kept_is : kept_after kept k ≡ kept
  described : described_after [] k p ≡ []
  said : (login : Login) (secret : Option (List ℕ)) → answers secret k p ≡ says login secret k p

grows_chain : (d : Bool) (kept : CapabilityFlags) (o : Option AuthStand) (k : Kind) (p : List ℕ) → is_chain_kind k ≡ true → is_bad k ≡ false → chain_kind o p ≡ k → GrowsChain d kept o k p
grows_chain d kept None k p i b e = absurd (none k e b)
grows_chain d kept (Some stand) (Greets c) p i b e = cc
grows_chain d kept (Some stand) (Asks ask) p i b e = record { spot = refl; columns = refl; kept_is = refl; described = refl; said = λ l s. refl }
grows_chain d kept (Some stand) (Good status) p i b e = record { spot = refl; columns = refl; kept_is = refl; described = refl; said = λ l s. refl }
grows_chain d kept (Some stand) Failed p i b e = record { spot = refl; columns = refl; kept_is = refl; described = refl; said = λ l s. refl }
grows_chain d kept (Some stand) (Count n) p i b e = cc
grows_chain d kept (Some stand) Column p i b e = cc
grows_chain d kept (Some stand) ColumnsDone p i b e = cc
grows_chain d kept (Some stand) Row p i b e = cc
grows_chain d kept (Some stand) (End status) p i b e = cc
grows_chain d kept (Some stand) (Prepared params columns) p i b e = cc
grows_chain d kept (Some stand) Parameter p i b e = cc
grows_chain d kept (Some stand) Field p i b e = cc
grows_chain d kept (Some stand) Bad p i b e = cc

same_context : (s s' : Spot) (rows rows' : RowFormat) (n n' : ℕ) (kept kept' : CapabilityFlags) (limit : ℕ) → s ≡ s' → rows ≡ rows' → n ≡ n' → kept ≡ kept'
    → (let c : Context = record { spot = s; rows = rows; columns = n; terms = record { kept = kept; limit = limit } } in c) ≡ record { spot = s'; rows = rows'; columns = n'; terms = record { kept = kept'; limit = limit } }
same_context s s' rows rows' n n' kept kept' limit e r f g = cc

grows_greeted : (login : Login) (q : List ℕ) (offer : Offer) (chain : List Packet) (k : Kind) (p : List ℕ) → chain_kind (stand_in (greeted_stand login offer) chain) p ≡ k → is_bad k ≡ false → length p ≤ limit_of (Greeted login q offer chain) → Fits (Greeted login q offer chain) → Grows (Greeted login q offer chain) k p
grows_greeted login q offer chain k p e b short f =
    let kept = (greeted_terms login offer.capabilities).kept in
    let stand = stand_in (greeted_stand login offer) chain in
    let g = grows_chain (deprecates_eof kept) kept stand k p (is_then is_chain_kind (chain_kind stand p) k (known_chain stand p) e) b e in
    record {
      context = same_context _ _ formats.Text _ _ _ kept _ default_limit g.spot refl (sym g.columns) (sym g.kept_is);
      described_is = sym g.described;
      packets_are = refl;
      turns_are = λ any. ap (λ o. client_turns o ++ Server p ∷ turns (Greeted login q offer chain)) (g.said login login.password);
      login_is = λ any. refl;
      secret_is = refl;
      fits = record { kinds = (f.kinds.0, (f.kinds.1, e, b)); within = (short, f.within) };
      origin_is = refl;
    }

grows_changing : (terms : Terms) (secret : Option (List ℕ)) (first : AuthStand) (c : List ℕ) (chain : List Packet) (k : Kind) (p : List ℕ) → chain_kind (stand_in first chain) p ≡ k → is_bad k ≡ false → length p ≤ terms.limit → Fits (Changing terms secret first c chain) → Grows (Changing terms secret first c chain) k p
grows_changing terms secret first c chain k p e b short f =
    let stand = stand_in first chain in
    let g = grows_chain (deprecates_eof terms.kept) terms.kept stand k p (is_then is_chain_kind (chain_kind stand p) k (known_chain stand p) e) b e in
    record {
      context = same_context _ _ formats.Text _ _ _ terms.kept _ terms.limit g.spot refl (sym g.columns) (sym g.kept_is);
      described_is = sym g.described;
      packets_are = refl;
      turns_are = λ login. ap (λ o. client_turns o ++ Server p ∷ turns (Changing terms secret first c chain)) (g.said login secret);
      login_is = λ any. refl;
      secret_is = refl;
      fits = record { kinds = (f.kinds, e, b); within = (short, f.within) };
      origin_is = refl;
    }

grows_asked : (terms : Terms) (c : List ℕ) (k : Kind) (p : List ℕ) → single_kind p ≡ k → is_single_kind k ≡ true → is_bad k ≡ false → length p ≤ terms.limit → Grows (Asked terms c) k p
grows_asked terms c (Greets n) p e i b short = cc
grows_asked terms c (Asks ask) p e i b short = cc
grows_asked terms c (Good status) p e i b short = record { context = refl; described_is = refl; packets_are = refl; turns_are = λ l. refl; login_is = λ l. refl; secret_is = refl; fits = record { kinds = (e, refl); within = (short, tt) }; origin_is = refl }
grows_asked terms c Failed p e i b short = record { context = refl; described_is = refl; packets_are = refl; turns_are = λ l. refl; login_is = λ l. refl; secret_is = refl; fits = record { kinds = (e, refl); within = (short, tt) }; origin_is = refl }
grows_asked terms c (Count n) p e i b short = cc
grows_asked terms c Column p e i b short = cc
grows_asked terms c ColumnsDone p e i b short = cc
grows_asked terms c Row p e i b short = cc
grows_asked terms c (End status) p e i b short = cc
grows_asked terms c (Prepared params columns) p e i b short = cc
grows_asked terms c Parameter p e i b short = cc
grows_asked terms c Field p e i b short = cc
grows_asked terms c Bad p e i b short = cc

grows_queried : (terms : Terms) (c : List ℕ) (x : Sets) (k : Kind) (p : List ℕ) → kind_by (spot_in x) (format_in x) (deprecates_eof terms.kept) (columns_in x) (described_in x) p ≡ k → is_bad k ≡ false → length p ≤ terms.limit → Fits (Queried terms c x) → Grows (Queried terms c x) k p
grows_queried terms c x k p e b short f =
    let d = deprecates_eof terms.kept in
    let g = (grows_sets d x k p e b f.kinds).grown in
    let n = calm k p g.other in
    record {
      context = same_context _ _ _ _ _ _ terms.kept _ terms.limit g.spot (ap format_of g.asking) g.columns (sym (n.kept terms.kept));
      described_is = g.described;
      packets_are = g.packets_are;
      turns_are = λ login.
          let began = commands_by c (asking_in x) in
          ap (λ a. served (packets_in (grow_sets d k x p)) (commands_by c a)) g.asking ∙ ap (λ ps. served ps began) g.packets_are ∙ ap (λ (rs : List Turn). rs ++ Server p ∷ served (packets_in x) began) (sym (n.silent login None));
      login_is = λ login. refl;
      secret_is = refl;
      fits = record { kinds = g.fits; within = one_more (Queried terms c x) (Queried terms c (grow_sets d k x p)) k p g.packets_are refl short f.within };
      origin_is = ap (λ a. Queried terms c (NoSets a)) g.asking;
    }

grows_preparing : (terms : Terms) (c : List ℕ) (r : Reply) (k : Kind) (p : List ℕ) → kind_by (spot_in_reply r) formats.Text (deprecates_eof terms.kept) 0 [] p ≡ k → is_bad k ≡ false → length p ≤ terms.limit → Fits (Preparing terms c r) → Grows (Preparing terms c r) k p
grows_preparing terms c r k p e b short f =
    let d = deprecates_eof terms.kept in
    let g = (grows_reply d r k p e b f.kinds).grown in
    let n = calm k p g.other in
    record {
      context = same_context _ _ formats.Text _ _ _ terms.kept _ terms.limit g.spot refl (sym g.columns) (sym (n.kept terms.kept));
      described_is = sym g.described;
      packets_are = g.packets_are;
      turns_are = λ login. ap (λ ps. served ps (Client c ∷ [])) g.packets_are ∙ ap (λ (rs : List Turn). rs ++ Server p ∷ served (packets_in_reply r) (Client c ∷ [])) (sym (n.silent login None));
      login_is = λ login. refl;
      secret_is = refl;
      fits = record { kinds = g.fits; within = one_more (Preparing terms c r) (Preparing terms c (grow_reply d k r p)) k p g.packets_are refl short f.within };
      origin_is = refl;
    }

pub grows : (t : Talk) (k : Kind) (p : List ℕ) → kind_there (context_of t) (described t) p ≡ k → is_bad k ≡ false → length p ≤ limit_of t → Fits t → Grows t k p
grows (Start login) k p e b short f = grows_start login k p e (is_then is_greeting_kind (greeting_kind p) k (known_greeting p) e) b short
grows (Unwelcome login q) k p e b short f = absurd (none k e b)
grows (Greeted login q offer chain) k p e b short f =
    let stand = stand_in (greeted_stand login offer) chain in
    let kept = (greeted_terms login offer.capabilities).kept in
    grows_greeted login q offer chain k p (sym (chain_kind_is stand formats.Text (deprecates_eof kept) 0 [] p) ∙ e) b short f
grows (Asked terms c) k p e b short f = grows_asked terms c k p e (is_then is_single_kind (single_kind p) k (known_single p) e) b short
grows (Replied terms c last kind) k p e b short f = absurd (none k e b)
grows (Changing terms secret stand c chain) k p e b short f =
    grows_changing terms secret stand c chain k p (sym (chain_kind_is (stand_in stand chain) formats.Text (deprecates_eof terms.kept) 0 [] p) ∙ e) b short f
grows (Queried terms c x) k p e b short f = grows_queried terms c x k p e b short f
grows (Preparing terms c r) k p e b short f = grows_preparing terms c r k p e b short f
grows (Silent terms c) k p e b short f = absurd (none k e b)

-- an exchange of another kind has no login, and any serves
abbrev pub any_login : Login
any_login = record { user = None; password = None; database = None; max_packet = 0; attributes = []; capabilities = record { 0 = 0 }; packet_limit = None; wait_timeout = None; init = []; setup = []; statements = 0; rules = record { cleartext = false; secure = false; local = false } }
