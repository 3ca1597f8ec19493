-- Each reply to a statement to prepare that fits is reached from its beginning by its payloads.
use Rattle.std.proofs.Common.{◌≡◌, ℕ, suc, ◌-◌, ◌≤◌, List, [], ◌∷◌, length, ◌==◌, ◌||◌, Bool, true, false, cond, leb, Option, Some, None, refl, sym, ◌∙◌, subst, arith, add-zero}
use Rattle.std.proofs.lemmas.Bool.Decides.{nat_tests}
use Rattle.std.specs.List.{AllByRecursion}
use Rattle.my_flags.specs.Sets.{deprecates_eof}
use Rattle.my_grammar.specs.declared.spot.Kind.{Kind}
use Rattle.my_grammar.specs.declared.spot.Kind.TheVariants.{Failed, ColumnsDone, Prepared, Parameter, Field}
use Rattle.my_grammar.specs.declared.spot.Terms.{Terms}
use Rattle.my_grammar.specs.Kinds.{columns_end_kind, parameter_kind, field_kind}
use Rattle.my_grammar.specs.Sets.{Packet, each, at_most_one}
use Rattle.my_grammar.specs.FitSets.{IsClose}
use Rattle.my_grammar.specs.Prepares.{PreparedHead, Described, Reply, Unanswered, Refused, InParameters, AfterParameters, InFields, AfterFields, Complete, described_packets, head_packet, packets_in_reply, open_part, closed_part, with_parameters}
use Rattle.my_grammar.specs.FitReplies.{IsPreparedHead, IsPart, IsOpenPart, AwaitsClose, AreKnown, FitReply}
use Rattle.my_grammar.specs.Talk.{Preparing, Fits}
use Rattle.my_grammar.proofs.Cutting.{Reaches, at_origin, goes_on}

-- each is within the limit
abbrev AllWithin : ℕ → List Packet → Type 0
AllWithin limit packets = AllByRecursion (λ packet. length packet.payload ≤ limit) packets

-- The packets of a part are of this kind and come after others. A part begins, grows by a packet and is closed so.
record PartSteps (terms : Terms) (c : List ℕ) (n : ℕ) (k : Kind) (Is : List ℕ → Type 0) (others : List Packet) (within : List (List ℕ) → ℕ → Reply) (after : List (List ℕ) → Reply) (whole : Described → Reply) : Type 0 where
  begin : Reaches (Preparing terms c (cond (n == 0) (whole (open_part [])) (within [] n)))
  more : (p : List ℕ) (ps : List (List ℕ)) (left : ℕ) → IsOpenPart n ps left → AllByRecursion Is (p ∷ ps) → AllWithin terms.limit (each k (p ∷ ps) others) → Reaches (Preparing terms c (within ps left))
      → Reaches (Preparing terms c (cond (leb left 1) (cond (deprecates_eof terms.kept) (whole (open_part (p ∷ ps))) (after (p ∷ ps))) (within (p ∷ ps) (left - 1))))
  close : (q : List ℕ) (ps : List (List ℕ)) → columns_end_kind q ≡ ColumnsDone → length q ≤ terms.limit → AwaitsClose (deprecates_eof terms.kept) n ps → AllByRecursion Is ps → AllWithin terms.limit (each k ps others) → Reaches (Preparing terms c (after ps))
      → Reaches (Preparing terms c (whole (closed_part ps q)))

-- an EOF or none
record ClosedBy (d : Bool) (n : ℕ) (q : List ℕ) : Type 0 where
  plain : d ≡ false
  some : (n == 0) ≡ false
  eof : columns_end_kind q ≡ ColumnsDone

closed_by : (d t : Bool) (n : ℕ) (q : List ℕ) → (n == 0) ≡ t → IsClose (d || t) (Some q) → ClosedBy d n q
closed_by true t n q e w = absurd w
closed_by false true n q e w = absurd w
closed_by false false n q e w = record { plain = refl; some = e; eof = w }

unclosed : (d t : Bool) → t ≡ false → IsClose (d || t) None → d ≡ true
unclosed true t e w = refl
unclosed false true e w = cc
unclosed false false e w = absurd w

-- some packets of a part
part_within : {terms : Terms} {c : List ℕ} {n : ℕ} {k : Kind} {Is : List ℕ → Type 0} {others : List Packet} {within : List (List ℕ) → ℕ → Reply} {after : List (List ℕ) → Reply} {whole : Described → Reply} → PartSteps terms c n k Is others within after whole
    → (ps : List (List ℕ)) (left : ℕ) → IsOpenPart n ps left → AllByRecursion Is ps → AllWithin terms.limit (each k ps others) → Reaches (Preparing terms c (within ps left))
part_within {terms} {c} {n} {k} {Is} {others} {within} {after} {whole} steps [] left w are all =
    let number : left ≡ n = sym (add-zero left) ∙ w.number in
    let some = w.some in
    let more : (n == 0) ≡ false = grind (arith, nat_tests) in
    subst (λ m. Reaches (Preparing terms c (within [] m))) (sym number) (subst (λ t. Reaches (Preparing terms c (cond t (whole (open_part [])) (within [] n)))) more steps.begin)
part_within {terms} {c} {n} {k} {Is} {others} {within} {after} {whole} steps (p ∷ ps) left w are all =
    let number = w.number in
    let some = w.some in
    let before : IsOpenPart n ps (suc left) = record { number = omega arith; some = omega arith } in
    let more : leb (suc left) 1 ≡ false = grind (arith, nat_tests) in
    let one : suc left - 1 ≡ left = omega arith in
    let y : Bool → ℕ → Reply = λ t m. cond t (cond (deprecates_eof terms.kept) (whole (open_part (p ∷ ps))) (after (p ∷ ps))) (within (p ∷ ps) m) in
    subst (λ m. Reaches (Preparing terms c (y false m))) one (subst (λ t. Reaches (Preparing terms c (y t (suc left - 1)))) more (steps.more p ps (suc left) before are all (part_within steps ps (suc left) before are.1 all.1)))

-- the last packet
part_last : {terms : Terms} {c : List ℕ} {n : ℕ} {k : Kind} {Is : List ℕ → Type 0} {others : List Packet} {within : List (List ℕ) → ℕ → Reply} {after : List (List ℕ) → Reply} {whole : Described → Reply} → PartSteps terms c n k Is others within after whole
    → (p : List ℕ) (ps : List (List ℕ)) → length (p ∷ ps) ≡ n → AllByRecursion Is (p ∷ ps) → AllWithin terms.limit (each k (p ∷ ps) others) → Reaches (Preparing terms c (cond (deprecates_eof terms.kept) (whole (open_part (p ∷ ps))) (after (p ∷ ps))))
part_last steps p ps number are all =
    let before : IsOpenPart _ ps 1 = record { number = omega arith; some = omega arith } in
    steps.more p ps 1 before are all (part_within steps ps 1 before are.1 all.1)

-- all packets, and an EOF is left
part_after : {terms : Terms} {c : List ℕ} {n : ℕ} {k : Kind} {Is : List ℕ → Type 0} {others : List Packet} {within : List (List ℕ) → ℕ → Reply} {after : List (List ℕ) → Reply} {whole : Described → Reply} → PartSteps terms c n k Is others within after whole
    → (ps : List (List ℕ)) → AwaitsClose (deprecates_eof terms.kept) n ps → AllByRecursion Is ps → AllWithin terms.limit (each k ps others) → Reaches (Preparing terms c (after ps))
part_after steps [] w are all =
    let number = w.number in
    let some = w.some in
    absurd (omega arith)
part_after {terms} {c} {n} {k} {Is} {others} {within} {after} {whole} steps (p ∷ ps) w are all =
    subst (λ (d : Bool). Reaches (Preparing terms c (cond d (whole (open_part (p ∷ ps))) (after (p ∷ ps))))) w.plain (part_last steps p ps w.number are all)

-- all packets, with an EOF or without
part_whole : {terms : Terms} {c : List ℕ} {n : ℕ} {k : Kind} {Is : List ℕ → Type 0} {others : List Packet} {within : List (List ℕ) → ℕ → Reply} {after : List (List ℕ) → Reply} {whole : Described → Reply} → PartSteps terms c n k Is others within after whole
    → (ps : List (List ℕ)) (close : Option (List ℕ)) → IsPart (deprecates_eof terms.kept) n (record { packets = ps; close = close }) → AllByRecursion Is ps → AllWithin terms.limit (at_most_one ColumnsDone close (each k ps others)) → Reaches (Preparing terms c (whole (record { packets = ps; close = close })))
part_whole {terms} {c} {n} {k} {Is} {others} {within} {after} {whole} steps [] None w are all =
    let number = w.number in
    let zero : (n == 0) ≡ true = grind (arith, nat_tests) in
    subst (λ t. Reaches (Preparing terms c (cond t (whole (open_part [])) (within [] n)))) zero steps.begin
part_whole {terms} {c} {n} {k} {Is} {others} {within} {after} {whole} steps (p ∷ ps) None w are all =
    let number = w.number in
    let some : (n == 0) ≡ false = grind (arith, nat_tests) in
    subst (λ (d : Bool). Reaches (Preparing terms c (cond d (whole (open_part (p ∷ ps))) (after (p ∷ ps))))) (unclosed (deprecates_eof terms.kept) (n == 0) some w.close) (part_last steps p ps number are all)
part_whole {terms} {c} {n} {k} {Is} {others} {within} {after} {whole} steps ps (Some q) w are all =
    let e = closed_by (deprecates_eof terms.kept) (n == 0) n q refl w.close in
    let some = e.some in
    let a : AwaitsClose (deprecates_eof terms.kept) n ps = record { number = w.number; some = grind (arith, nat_tests); plain = e.plain } in
    steps.close q ps e.eof all.0 a are all.1 (part_after steps ps a are all.1)

-- the exchange of a reply that fits
reply_fits : {terms : Terms} {c : List ℕ} {r : Reply} → FitReply (deprecates_eof terms.kept) r → AllWithin terms.limit (packets_in_reply r) → Fits (Preparing terms c r)
reply_fits f all = record { kinds = f; within = all }

begun : (terms : Terms) (c : List ℕ) → Reaches (Preparing terms c Unanswered)
begun terms c = at_origin (Preparing terms c Unanswered) refl refl

-- the parameters come after the head
parameter_steps : (terms : Terms) (c : List ℕ) (h : PreparedHead) → IsPreparedHead h → length h.payload ≤ terms.limit → PartSteps terms c h.params Parameter (λ p. parameter_kind p ≡ Parameter) (head_packet h) (InParameters h) (AfterParameters h) (with_parameters h)
parameter_steps terms c h e short = record {
  begin = goes_on (Preparing terms c Unanswered) (Prepared h.params h.columns) h.payload e refl short (reply_fits tt tt) (begun terms c);
  more = λ p ps left w are all r. goes_on (Preparing terms c (InParameters h ps left)) Parameter p are.0 refl all.0 (reply_fits (e, are.1, w) all.1) r;
  close = λ q ps k within w are all r. goes_on (Preparing terms c (AfterParameters h ps)) ColumnsDone q k refl within (reply_fits (e, are, w) all) r;
}

parameters_reached : (terms : Terms) (c : List ℕ) (h : PreparedHead) (w : Described) → AreKnown (deprecates_eof terms.kept) h w → length h.payload ≤ terms.limit → AllWithin terms.limit (described_packets Parameter w (head_packet h)) → Reaches (Preparing terms c (with_parameters h w))
parameters_reached terms c h w known short all = part_whole (parameter_steps terms c h known.head_is short) w.packets w.close known.all known.are all

-- the columns come after the parameters
field_steps : (terms : Terms) (c : List ℕ) (h : PreparedHead) (w : Described) → AreKnown (deprecates_eof terms.kept) h w → AllWithin terms.limit (described_packets Parameter w (head_packet h)) → length h.payload ≤ terms.limit → PartSteps terms c h.columns Field (λ p. field_kind p ≡ Field) (described_packets Parameter w (head_packet h)) (InFields h w) (AfterFields h w) (Complete h w)
field_steps terms c h w known older short = record {
  begin = parameters_reached terms c h w known short older;
  more = λ p ps left o are all r. goes_on (Preparing terms c (InFields h w ps left)) Field p are.0 refl all.0 (reply_fits (known, are.1, o) all.1) r;
  close = λ q ps k within a are all r. goes_on (Preparing terms c (AfterFields h w ps)) ColumnsDone q k refl within (reply_fits (known, are, a) all) r;
}

-- what is within the limit after newer payloads
after_each : (limit : ℕ) (k : Kind) (ps : List (List ℕ)) (others : List Packet) → AllWithin limit (each k ps others) → AllWithin limit others
after_each limit k [] others all = all
after_each limit k (p ∷ ps) others all = after_each limit k ps others all.1

after_part : (limit : ℕ) (k : Kind) (ps : List (List ℕ)) (close : Option (List ℕ)) (others : List Packet) → AllWithin limit (at_most_one ColumnsDone close (each k ps others)) → AllWithin limit others
after_part limit k ps None others all = after_each limit k ps others all
after_part limit k ps (Some q) others all = after_each limit k ps others all.1

fields_after : (terms : Terms) (c : List ℕ) (h : PreparedHead) (w : Described) → AreKnown (deprecates_eof terms.kept) h w → AllWithin terms.limit (described_packets Parameter w (head_packet h)) → PartSteps terms c h.columns Field (λ p. field_kind p ≡ Field) (described_packets Parameter w (head_packet h)) (InFields h w) (AfterFields h w) (Complete h w)
fields_after terms c h w known older = field_steps terms c h w known older (after_part terms.limit Parameter w.packets w.close (head_packet h) older).0

pub reply_reaches : (terms : Terms) (c : List ℕ) (r : Reply) → FitReply (deprecates_eof terms.kept) r → AllWithin terms.limit (packets_in_reply r) → Reaches (Preparing terms c r)
reply_reaches terms c Unanswered f all = begun terms c
reply_reaches terms c (Refused p) f all = goes_on (Preparing terms c Unanswered) Failed p f refl all.0 (reply_fits tt tt) (begun terms c)
reply_reaches terms c (InParameters h ps left) f all = part_within (parameter_steps terms c h f.0 (after_each terms.limit Parameter ps (head_packet h) all).0) ps left f.2 f.1 all
reply_reaches terms c (AfterParameters h ps) f all = part_after (parameter_steps terms c h f.0 (after_each terms.limit Parameter ps (head_packet h) all).0) ps f.2 f.1 all
reply_reaches terms c (InFields h w ps left) f all = part_within (fields_after terms c h w f.0 (after_each terms.limit Field ps _ all)) ps left f.2 f.1 all
reply_reaches terms c (AfterFields h w ps) f all = part_after (fields_after terms c h w f.0 (after_each terms.limit Field ps _ all)) ps f.2 f.1 all
reply_reaches terms c (Complete h w v) f all = part_whole (fields_after terms c h w f.0 (after_part terms.limit Field v.packets v.close _ all)) v.packets v.close f.2 f.1 all
