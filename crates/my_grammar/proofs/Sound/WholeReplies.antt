-- A reply to a statement to prepare that is over has as many packets as its head says.
use Rattle.std.proofs.Common.{◌≡◌, ℕ, List, [], ◌∷◌, ◌++◌, map, length, replicate, ◌==◌, ◌||◌, Bool, true, false, cond, Option, Some, None, ◌⊎◌, inl, inr, refl, sym, ap, ◌∙◌, subst}
use Rattle.my_flags.specs.Sets.{deprecates_eof}
use Rattle.my_reply.specs.declared.err.ErrPacket.{ErrPacket}
use Rattle.my_reply.specs.declared.replies.PrepareOk.{PrepareOk}
use Rattle.my_reply.specs.ErrPacket.{err_at}
use Rattle.my_reply.specs.Replies.{prepare_ok_at}
use Rattle.my_grammar.specs.declared.spot.Kind.{Kind}
use Rattle.my_grammar.specs.declared.spot.Kind.TheVariants.{ColumnsDone, Prepared, Parameter, Field}
use Rattle.my_grammar.specs.declared.spot.Terms.{Terms}
use Rattle.my_grammar.specs.Kinds.{or_else, failed_kind, prepared_kind}
use Rattle.my_grammar.specs.Sets.{Packet, each, at_most_one}
use Rattle.my_grammar.specs.FitSets.{IsClose}
use Rattle.my_grammar.specs.Prepares.{PreparedHead, Described, Reply, Unanswered, Refused, InParameters, AfterParameters, InFields, AfterFields, Complete, described_packets, head_packet, packets_in_reply}
use Rattle.my_grammar.specs.FitReplies.{IsPart, FitReply, part_kinds, IsRefusal, IsWholeReply}
use Rattle.my_grammar.specs.Talk.{Talk, Start, Unwelcome, Greeted, Asked, Replied, Changing, Queried, Preparing, Silent, Fits, packets_of, origin}
use Rattle.my_grammar.specs.Cut.{is_over}

-- the head as it is read
record Numbers (o : Option PrepareOk) (params columns : ℕ) : Type 0 where
  head : PrepareOk
  is : o ≡ Some head
  params_are : head.params ≡ params
  columns_are : head.columns ≡ columns

numbers : (o : Option PrepareOk) (x : Option ErrPacket) (params columns : ℕ) → or_else (prepared_kind o) (failed_kind x) ≡ Prepared params columns → Numbers o params columns
numbers None None params columns e = cc
numbers None (Some x) params columns e = cc
numbers (Some head) x params columns e = record { head = head; is = refl; params_are = cc; columns_are = cc }

-- the kinds of a part's packets
each_kinds : (k : Kind) (ps : List (List ℕ)) (others : List Packet) → map (λ (x : Packet). x.kind) (each k ps others) ≡ replicate (length ps) k ++ map (λ (x : Packet). x.kind) others
each_kinds k [] others = refl
each_kinds k (p ∷ ps) others = ap (λ ks. k ∷ ks) (each_kinds k ps others)

close_kinds : (t : Bool) (close : Option (List ℕ)) (others : List Packet) → IsClose t close → map (λ (x : Packet). x.kind) (at_most_one ColumnsDone close others) ≡ (cond t [] (ColumnsDone ∷ [])) ++ map (λ (x : Packet). x.kind) others
close_kinds true None others w = refl
close_kinds true (Some q) others w = absurd w
close_kinds false None others w = absurd w
close_kinds false (Some q) others w = refl

kinds_of_part : (d : Bool) (n : ℕ) (k : Kind) (w : Described) (others : List Packet) → IsPart d n w → map (λ (x : Packet). x.kind) (described_packets k w others) ≡ part_kinds d k n (map (λ (x : Packet). x.kind) others)
kinds_of_part d n k w others h =
    close_kinds (d || (n == 0)) w.close (each k w.packets others) h.close ∙ ap (λ ks. cond (d || (n == 0)) [] (ColumnsDone ∷ []) ++ ks) (each_kinds k w.packets others ∙ ap (λ m. replicate m k ++ map (λ (x : Packet). x.kind) others) h.number)

-- a part in front of two lists
each_append : (k : Kind) (ps : List (List ℕ)) (a b : List Packet) → each k ps (a ++ b) ≡ each k ps a ++ b
each_append k [] a b = refl
each_append k (p ∷ ps) a b = ap (λ x. record { kind = k; payload = p } ∷ x) (each_append k ps a b)

part_append : (k : Kind) (ps : List (List ℕ)) (close : Option (List ℕ)) (a b : List Packet) → at_most_one ColumnsDone close (each k ps (a ++ b)) ≡ at_most_one ColumnsDone close (each k ps a) ++ b
part_append k ps None a b = each_append k ps a b
part_append k ps (Some q) a b = ap (λ x. record { kind = ColumnsDone; payload = q } ∷ x) (each_append k ps a b)

complete_is_whole : (d : Bool) (h : PreparedHead) (w v : Described) → FitReply d (Complete h w v) → IsWholeReply d (packets_in_reply (Complete h w v))
complete_is_whole d h w v f =
    let known = f.0 in
    let read = numbers (prepare_ok_at h.payload) (err_at false h.payload) h.params h.columns known.head_is in
    let parameters : List Packet = described_packets Parameter w [] in
    let newer : List Packet = described_packets Field v parameters in
    let split : packets_in_reply (Complete h w v) ≡ newer ++ head_packet h = ap (λ x. described_packets Field v x) (part_append Parameter w.packets w.close [] (head_packet h)) ∙ part_append Field v.packets v.close parameters (head_packet h) in
    let kinds_are : map (λ (x : Packet). x.kind) newer ≡ part_kinds d Field h.columns (part_kinds d Parameter h.params []) = kinds_of_part d h.columns Field v parameters f.2 ∙ ap (λ ks. part_kinds d Field h.columns ks) (kinds_of_part d h.params Parameter w [] known.all) in
    let same : head_packet h ≡ record { kind = Prepared read.head.params read.head.columns; payload = h.payload } ∷ [] = cc in
    record {
      payload = h.payload;
      head = read.head;
      newer = newer;
      read = read.is;
      packets_are = split ∙ ap (λ x. newer ++ x) same;
      newer_are = kinds_are ∙ sym (ap (λ n. part_kinds d Field n (part_kinds d Parameter read.head.params [])) read.columns_are ∙ ap (λ n. part_kinds d Field h.columns (part_kinds d Parameter n [])) read.params_are);
    }

reply_is_whole : (terms : Terms) (c : List ℕ) (r : Reply) → Fits (Preparing terms c r) → is_over (Preparing terms c r) ≡ true → IsRefusal (packets_in_reply r) ⊎ IsWholeReply (deprecates_eof terms.kept) (packets_in_reply r)
reply_is_whole terms c Unanswered f e = cc
reply_is_whole terms c (Refused p) f e = inl (record { payload = p; packets_are = refl })
reply_is_whole terms c (InParameters h ps left) f e = cc
reply_is_whole terms c (AfterParameters h ps) f e = cc
reply_is_whole terms c (InFields h w ps left) f e = cc
reply_is_whole terms c (AfterFields h w ps) f e = cc
reply_is_whole terms c (Complete h w v) f e = inr (complete_is_whole (deprecates_eof terms.kept) h w v f.kinds)

pub prepare_is_whole : (terms : Terms) (c : List ℕ) (t : Talk) → origin t ≡ Preparing terms c Unanswered → Fits t → is_over t ≡ true → IsRefusal (packets_of t) ⊎ IsWholeReply (deprecates_eof terms.kept) (packets_of t)
prepare_is_whole terms c (Start login) o f e = cc
prepare_is_whole terms c (Unwelcome login p) o f e = cc
prepare_is_whole terms c (Greeted login p offer chain) o f e = cc
prepare_is_whole terms c (Asked own d) o f e = cc
prepare_is_whole terms c (Replied own d last kind) o f e = cc
prepare_is_whole terms c (Changing own secret stand d chain) o f e = cc
prepare_is_whole terms c (Queried own d sets) o f e = cc
prepare_is_whole terms c (Preparing own d r) o f e =
    let same : own ≡ terms = cc in
    subst (λ (x : Terms). IsRefusal (packets_in_reply r) ⊎ IsWholeReply (deprecates_eof x.kept) (packets_in_reply r)) same (reply_is_whole own d r f e)
prepare_is_whole terms c (Silent own d) o f e = cc
