-- Each exchange that fits is reached from its beginning by its payloads.
use Rattle.std.proofs.Common.{◌≡◌, ℕ, suc, ◌-◌, ◌≤◌, ◌<◌, List, [], ◌∷◌, length, Bool, true, false, cond, leb, Option, Some, None, refl, sym, ◌∙◌, subst, arith, add-zero}
use Rattle.std.proofs.lemmas.Bool.Decides.{nat_tests}
use Rattle.std.specs.List.{AllByRecursion}
use Rattle.my_auth.specs.declared.chain.AuthStand.{AuthStand}
use Rattle.my_flags.specs.declared.flags.StatusFlags.{StatusFlags}
use Rattle.my_flags.specs.Sets.{deprecates_eof}
use Rattle.my_grammar.specs.declared.login.Login.{Login}
use Rattle.my_grammar.specs.declared.spot.Kind.{Kind}
use Rattle.my_grammar.specs.declared.spot.Offer.{Offer}
use Rattle.my_grammar.specs.declared.spot.RowFormat.TheVariants.{Text}
use Rattle.my_grammar.specs.declared.spot.Kind.TheVariants.{Greets, Good, Failed, Count, Column, ColumnsDone, Row, End}
use Rattle.my_grammar.specs.declared.spot.Terms.{Terms}
use Rattle.my_grammar.specs.Kinds.{head_kind, columns_end_kind, kind_by}
use Rattle.my_grammar.specs.Sets.{SetHead, Sets, NoSets, Lone, Failed as FailedSet, Heading, Headed, Begun, Ended, Broken, Packet, each, at_most_one, head_packets, packets_in, spot_in, columns_in, format_in, described_in}
use Rattle.my_grammar.specs.FitSets.{is_head, IsClose, IsHeading, IsBegun, FitSets}
use Rattle.my_grammar.specs.Talk.{Talk, Start, Unwelcome, Greeted, Asked, Replied, Changing, Queried, Preparing, Silent, Fits, greeted_stand, greeted_terms, stand_in}
use Rattle.my_grammar.proofs.Commands.{commands_silent}
use Rattle.my_grammar.proofs.Growth.Known.{is_head_kind, known_head, is_then, head_kind_is}
use Rattle.my_grammar.proofs.Growth.{chain_kind_is}
use Rattle.my_grammar.proofs.Growth.SetGrowth.{error_is}
use Rattle.my_grammar.proofs.Cutting.{Reaches, at_origin, goes_on}
use Rattle.my_grammar.proofs.Sound.Replies.{reply_reaches}

-- each is within the limit
AllWithin : ℕ → List Packet → Type 0
AllWithin limit packets = AllByRecursion (λ packet. length packet.payload ≤ limit) packets

-- sets that fit, within the limit, and are reached
record Stands (terms : Terms) (c : List ℕ) (x : Sets) : Type 0 where
  fits : FitSets (deprecates_eof terms.kept) x
  within : AllByRecursion (λ packet. length packet.payload ≤ terms.limit) (packets_in x)
  reached : Reaches (Queried terms c x)

-- the exchange of sets that fit
queried_fits : {terms : Terms} {c : List ℕ} {x : Sets} → Stands terms c x → Fits (Queried terms c x)
queried_fits w = record { kinds = w.fits; within = w.within }

-- a head's payload is known by its place
in_place : (x : Sets) (d : Bool) (p : List ℕ) (k : Kind) → is_head (spot_in x) ≡ true → head_kind p ≡ k → kind_by (spot_in x) (format_in x) d (columns_in x) (described_in x) p ≡ k
in_place x d p k h e = head_kind_is (spot_in x) (format_in x) d (columns_in x) (described_in x) p h ∙ e

lone_stands : (terms : Terms) (c : List ℕ) (older : Sets) (p : List ℕ) (status : StatusFlags) → Stands terms c older → is_head (spot_in older) ≡ true → head_kind p ≡ Good status → length p ≤ terms.limit → Stands terms c (Lone older p status)
lone_stands terms c older p status w h e short = record {
  fits = (h, e, w.fits);
  within = (short, w.within);
  reached = goes_on (Queried terms c older) (Good status) p (in_place older (deprecates_eof terms.kept) p (Good status) h e) refl short (queried_fits w) w.reached;
}

failed_stands : (terms : Terms) (c : List ℕ) (older : Sets) (p : List ℕ) → Stands terms c older → is_head (spot_in older) ≡ true → head_kind p ≡ Failed → length p ≤ terms.limit → Stands terms c (FailedSet older p)
failed_stands terms c older p w h e short = record {
  fits = (h, e, w.fits);
  within = (short, w.within);
  reached = subst (λ (x : Sets). Reaches (Queried terms c x)) (error_is older p h) (goes_on (Queried terms c older) Failed p (in_place older (deprecates_eof terms.kept) p Failed h e) refl short (queried_fits w) w.reached);
}

-- a head in parts
abbrev head_of : List ℕ → ℕ → List (List ℕ) → Option (List ℕ) → SetHead
head_of count number columns close = record { count = count; number = number; columns = columns; close = close }

-- the head with one column less
without_column : (older : Sets) (count : List ℕ) (number : ℕ) (p : List ℕ) (columns : List (List ℕ)) (left : ℕ) (close : Option (List ℕ)) → IsHeading older (head_of count number (p ∷ columns) close) left → IsHeading older (head_of count number columns None) (suc left)
without_column older count number p columns left close w =
    let all = w.all in
    record { place = w.place; count = w.count; columns = w.columns.1; all = omega arith }

-- a head of which columns are left
heading_stands : (terms : Terms) (c : List ℕ) (older : Sets) (count : List ℕ) (number : ℕ) (columns : List (List ℕ)) (left : ℕ) → Stands terms c older → IsHeading older (head_of count number columns None) left → 0 < left → AllByRecursion (λ packet. length packet.payload ≤ terms.limit) (packets_in (Heading older (head_of count number columns None) left)) → Stands terms c (Heading older (head_of count number columns None) left)
heading_stands terms c older count number [] left w h some within =
    let all : left ≡ number = sym (add-zero left) ∙ h.all in
    record {
      fits = (h, some, refl, w.fits);
      within = within;
      reached = subst (λ n. Reaches (Queried terms c (Heading older (head_of count number [] None) n))) (sym all) (goes_on (Queried terms c older) (Count number) count (in_place older (deprecates_eof terms.kept) count (Count number) h.place h.count) refl within.0 (queried_fits w) w.reached);
    }
heading_stands terms c older count number (p ∷ columns) left w h some within =
    let before = heading_stands terms c older count number columns (suc left) w (without_column older count number p columns left None h) (omega arith) within.1 in
    let more : leb (suc left) 1 ≡ false = grind (arith, nat_tests) in
    let one : suc left - 1 ≡ left = omega arith in
    let x : Bool → ℕ → Sets = λ t n. cond t (cond (deprecates_eof terms.kept) (Begun older (head_of count number (p ∷ columns) None) []) (Headed older (head_of count number (p ∷ columns) None))) (Heading older (head_of count number (p ∷ columns) None) n) in
    record {
      fits = (h, some, refl, w.fits);
      within = within;
      reached = subst (λ n. Reaches (Queried terms c (x false n))) one (subst (λ t. Reaches (Queried terms c (x t (suc left - 1)))) more (goes_on (Queried terms c (Heading older (head_of count number columns None) (suc left))) Column p h.columns.0 refl within.0 (queried_fits before) before.reached));
    }

-- a head's count is no zero
not_empty : (older : Sets) (count : List ℕ) (number : ℕ) → IsHeading older (head_of count number [] None) 0 → ⊥
not_empty older count number h =
    let zero : number ≡ 0 = sym h.all in
    let known : leb 1 number ≡ true = is_then is_head_kind (head_kind count) (Count number) (known_head count) h.count in
    let bad : leb 1 0 ≡ true = subst (λ n. leb 1 n ≡ true) zero known in
    cc

-- after the last column: with an EOF to come, or without
last_reached : (terms : Terms) (c : List ℕ) (older : Sets) (count : List ℕ) (number : ℕ) (columns : List (List ℕ)) → Stands terms c older → IsHeading older (head_of count number columns None) 0 → AllByRecursion (λ packet. length packet.payload ≤ terms.limit) (packets_in (Headed older (head_of count number columns None))) → Reaches (Queried terms c (cond (deprecates_eof terms.kept) (Begun older (head_of count number columns None) []) (Headed older (head_of count number columns None))))
last_reached terms c older count number [] w h within = absurd (not_empty older count number h)
last_reached terms c older count number (p ∷ columns) w h within =
    let before = heading_stands terms c older count number columns 1 w (without_column older count number p columns 0 None h) (omega arith) within.1 in
    goes_on (Queried terms c (Heading older (head_of count number columns None) 1)) Column p h.columns.0 refl within.0 (queried_fits before) before.reached

headed_stands : (terms : Terms) (c : List ℕ) (older : Sets) (count : List ℕ) (number : ℕ) (columns : List (List ℕ)) → Stands terms c older → IsHeading older (head_of count number columns None) 0 → deprecates_eof terms.kept ≡ false → AllByRecursion (λ packet. length packet.payload ≤ terms.limit) (packets_in (Headed older (head_of count number columns None))) → Stands terms c (Headed older (head_of count number columns None))
headed_stands terms c older count number columns w h d within = record {
  fits = (h, d, refl, w.fits);
  within = within;
  reached = subst (λ (d : Bool). Reaches (Queried terms c (cond d (Begun older (head_of count number columns None) []) (Headed older (head_of count number columns None))))) d (last_reached terms c older count number columns w h within);
}

unclosed : (d : Bool) → IsClose d None → d ≡ true
unclosed true h = refl
unclosed false h = absurd h

-- An EOF after the columns: the server doesn't deprecate it.
record Closes (d : Bool) (q : List ℕ) : Type 0 where
  plain : d ≡ false
  eof : columns_end_kind q ≡ ColumnsDone

closes : (d : Bool) (q : List ℕ) → IsClose d (Some q) → Closes d q
closes true q h = absurd h
closes false q h = record { plain = refl; eof = h }

begun_stands : (terms : Terms) (c : List ℕ) (older : Sets) (count : List ℕ) (number : ℕ) (columns : List (List ℕ)) (close : Option (List ℕ)) (rows : List (List ℕ)) → Stands terms c older → IsBegun (deprecates_eof terms.kept) older (head_of count number columns close) rows → AllByRecursion (λ packet. length packet.payload ≤ terms.limit) (packets_in (Begun older (head_of count number columns close) rows)) → Stands terms c (Begun older (head_of count number columns close) rows)
begun_stands terms c older count number columns None [] w b within = record {
  fits = (b, w.fits);
  within = within;
  reached = subst (λ (d : Bool). Reaches (Queried terms c (cond d (Begun older (head_of count number columns None) []) (Headed older (head_of count number columns None))))) (unclosed (deprecates_eof terms.kept) b.close) (last_reached terms c older count number columns w b.heading within);
}
begun_stands terms c older count number columns (Some q) [] w b within =
    let e = closes (deprecates_eof terms.kept) q b.close in
    let h = b.heading in
    let before = headed_stands terms c older count number columns w (record { place = h.place; count = h.count; columns = h.columns; all = h.all }) e.plain within.1 in
    record {
      fits = (b, w.fits);
      within = within;
      reached = goes_on (Queried terms c (Headed older (head_of count number columns None))) ColumnsDone q e.eof refl within.0 (queried_fits before) before.reached;
    }
begun_stands terms c older count number columns close (r ∷ rows) w b within =
    let before = begun_stands terms c older count number columns close rows w (record { heading = b.heading; close = b.close; filled = b.filled.1 }) within.1 in
    record {
      fits = (b, w.fits);
      within = within;
      reached = goes_on (Queried terms c (Begun older (head_of count number columns close) rows)) Row r b.filled.0 refl within.0 (queried_fits before) before.reached;
    }

-- what is within the limit after newer payloads
after_each : (limit : ℕ) (k : Kind) (ps : List (List ℕ)) (others : List Packet) → AllByRecursion (λ packet. length packet.payload ≤ limit) (each k ps others) → AllByRecursion (λ packet. length packet.payload ≤ limit) others
after_each limit k [] others all = all
after_each limit k (p ∷ ps) others all = after_each limit k ps others all.1

after_close : (limit : ℕ) (close : Option (List ℕ)) (others : List Packet) → AllByRecursion (λ packet. length packet.payload ≤ limit) (at_most_one ColumnsDone close others) → AllByRecursion (λ packet. length packet.payload ≤ limit) others
after_close limit None others all = all
after_close limit (Some p) others all = all.1

after_head : (limit : ℕ) (head : SetHead) (older : Sets) → AllByRecursion (λ packet. length packet.payload ≤ limit) (head_packets head (packets_in older)) → AllByRecursion (λ packet. length packet.payload ≤ limit) (packets_in older)
after_head limit head older all =
    (after_each limit Column head.columns _ (after_close limit head.close _ all)).1

after_rows : (limit : ℕ) (head : SetHead) (older : Sets) (rows : List (List ℕ)) → AllByRecursion (λ packet. length packet.payload ≤ limit) (packets_in (Begun older head rows)) → AllByRecursion (λ packet. length packet.payload ≤ limit) (packets_in older)
after_rows limit head older rows all = after_head limit head older (after_each limit Row rows _ all)

-- with the close as it is known
in_heading : (limit : ℕ) (older : Sets) (head : SetHead) → head.close ≡ None → AllByRecursion (λ packet. length packet.payload ≤ limit) (head_packets head (packets_in older)) → AllByRecursion (λ packet. length packet.payload ≤ limit) (head_packets (head_of head.count head.number head.columns None) (packets_in older))
in_heading limit older head none all = subst (λ (close : Option (List ℕ)). AllByRecursion (λ packet. length packet.payload ≤ limit) (head_packets (head_of head.count head.number head.columns close) (packets_in older))) none all

sets_stand : (terms : Terms) (c : List ℕ) (x : Sets) → FitSets (deprecates_eof terms.kept) x → AllByRecursion (λ packet. length packet.payload ≤ terms.limit) (packets_in x) → Stands terms c x
sets_stand terms c (NoSets asking) f all = record { fits = tt; within = tt; reached = at_origin (Queried terms c (NoSets asking)) refl (commands_silent c asking) }
sets_stand terms c (Lone older p status) f all = lone_stands terms c older p status (sets_stand terms c older f.2 all.1) f.0 f.1 all.0
sets_stand terms c (FailedSet older p) f all = failed_stands terms c older p (sets_stand terms c older f.2 all.1) f.0 f.1 all.0
sets_stand terms c (Heading older head left) f all =
    let h = f.0 in
    let w = sets_stand terms c older f.3 (after_head terms.limit head older all) in
    let x = heading_stands terms c older head.count head.number head.columns left w (record { place = h.place; count = h.count; columns = h.columns; all = h.all }) f.1 (in_heading terms.limit older head f.2 all) in
    subst (λ (close : Option (List ℕ)). Stands terms c (Heading older (head_of head.count head.number head.columns close) left)) (sym f.2) x
sets_stand terms c (Headed older head) f all =
    let h = f.0 in
    let w = sets_stand terms c older f.3 (after_head terms.limit head older all) in
    let x = headed_stands terms c older head.count head.number head.columns w (record { place = h.place; count = h.count; columns = h.columns; all = h.all }) f.1 (in_heading terms.limit older head f.2 all) in
    subst (λ (close : Option (List ℕ)). Stands terms c (Headed older (head_of head.count head.number head.columns close))) (sym f.2) x
sets_stand terms c (Begun older head rows) f all =
    begun_stands terms c older head.count head.number head.columns head.close rows (sets_stand terms c older f.1 (after_rows terms.limit head older rows all)) f.0 all
sets_stand terms c (Ended older head rows last status) f all =
    let w = begun_stands terms c older head.count head.number head.columns head.close rows (sets_stand terms c older f.2 (after_rows terms.limit head older rows all.1)) f.0 all.1 in
    record { fits = f; within = all; reached = goes_on (Queried terms c (Begun older head rows)) (End status) last f.1 refl all.0 (queried_fits w) w.reached }
sets_stand terms c (Broken older head rows last) f all =
    let w = begun_stands terms c older head.count head.number head.columns head.close rows (sets_stand terms c older f.2 (after_rows terms.limit head older rows all.1)) f.0 all.1 in
    record { fits = f; within = all; reached = goes_on (Queried terms c (Begun older head rows)) Failed last f.1 refl all.0 (queried_fits w) w.reached }

start_fits : (login : Login) → Fits (Start login)
start_fits login = record { kinds = tt; within = tt }

greeted_reaches : (login : Login) (p : List ℕ) (offer : Offer) (chain : List Packet) → Fits (Greeted login p offer chain) → Reaches (Greeted login p offer chain)
greeted_reaches login p offer [] f = goes_on (Start login) (Greets offer) p f.kinds.0 refl f.within.0 (start_fits login) (at_origin (Start login) refl refl)
greeted_reaches login p offer (packet ∷ chain) f =
    let stand = stand_in (greeted_stand login offer) chain in
    let before : Fits (Greeted login p offer chain) = record { kinds = (f.kinds.0, f.kinds.1.0); within = f.within.1 } in
    goes_on (Greeted login p offer chain) packet.kind packet.payload (chain_kind_is stand Text (deprecates_eof (greeted_terms login offer.capabilities).kept) 0 [] packet.payload ∙ f.kinds.1.1) f.kinds.1.2 f.within.0 before (greeted_reaches login p offer chain before)

changing_reaches : (terms : Terms) (secret : Option (List ℕ)) (first : AuthStand) (c : List ℕ) (chain : List Packet) → Fits (Changing terms secret first c chain) → Reaches (Changing terms secret first c chain)
changing_reaches terms secret first c [] f = at_origin (Changing terms secret first c []) refl refl
changing_reaches terms secret first c (packet ∷ chain) f =
    let before : Fits (Changing terms secret first c chain) = record { kinds = f.kinds.0; within = f.within.1 } in
    goes_on (Changing terms secret first c chain) packet.kind packet.payload (chain_kind_is (stand_in first chain) Text (deprecates_eof terms.kept) 0 [] packet.payload ∙ f.kinds.1) f.kinds.2 f.within.0 before (changing_reaches terms secret first c chain before)

pub reaches : (t : Talk) → Fits t → Reaches t
reaches (Start login) f = at_origin (Start login) refl refl
reaches (Unwelcome login p) f = goes_on (Start login) Failed p f.kinds refl f.within.0 (start_fits login) (at_origin (Start login) refl refl)
reaches (Greeted login p offer chain) f = greeted_reaches login p offer chain f
reaches (Asked terms c) f = at_origin (Asked terms c) refl refl
reaches (Replied terms c last kind) f = goes_on (Asked terms c) kind last f.kinds.0 f.kinds.1 f.within.0 (record { kinds = tt; within = tt }) (at_origin (Asked terms c) refl refl)
reaches (Changing terms secret stand c chain) f = changing_reaches terms secret stand c chain f
reaches (Queried terms c x) f = (sets_stand terms c x f.kinds f.within).reached
reaches (Preparing terms c r) f = reply_reaches terms c r f.kinds f.within
reaches (Silent terms c) f = at_origin (Silent terms c) refl refl
