-- Sets are heard as they are written.
use Rattle.std.proofs.Common.{◌≡◌, ℕ, ◌-◌, ◌<◌, ◌≤◌, ◌^◌, suc, List, [], ◌∷◌, ◌++◌, length, map, reverse, Bool, true, false, cond, eqb, leb, lit<, Option, Some, None, refl, sym, ap, subst, ◌∙◌, arith, append_assoc}
use Rattle.std.specs.List.{AllByRecursion}
use Rattle.std.proofs.lemmas.Bool.Decides.{nat_tests}
use Rattle.std.proofs.lemmas.List.{append-nil, reverse-append, reverse-reverse}
use Rattle.my_flags.specs.declared.flags.StatusFlags.{StatusFlags}
use Rattle.my_flags.specs.Sets.{deprecates_eof}
use Rattle.my_reply.specs.declared.server.ServerPacket.TheVariants as packets
use Rattle.my_reply.specs.Column.{column_at}
use Rattle.my_reply.specs.Server.{server_bytes}
use Rattle.my_value.specs.TextRow.{text_row_at}
use Rattle.my_value.specs.WrittenRow.{TextsFit, sent_value}
use Rattle.my_grammar.specs.declared.spot.Spot.TheVariants as spots
use Rattle.my_grammar.specs.declared.spot.Kind.TheVariants as kinds
use Rattle.my_grammar.specs.declared.spot.Terms.{Terms}
use Rattle.my_grammar.specs.FitSets.{is_head}
use Rattle.my_grammar.specs.declared.spot.RowFormat.{RowFormat}
use Rattle.my_grammar.specs.declared.spot.RowFormat.TheVariants.{Text}
use Rattle.my_grammar.specs.Kinds.{row_kind}
use Rattle.my_grammar.specs.Sets.{SetHead, Sets, ByText, NoSets, Heading, Headed, Begun, Ended, format_in, head_columns, spot_in, with_column_of}
use Rattle.my_grammar.specs.Talk.{Talk, Queried, Fits}
use Rattle.my_grammar.specs.Growth.{grow}
use Rattle.my_grammar.proofs.Growth.Known.{head_kind_is}
use Rattle.my_server.specs.declared.answer.TheConstants.{DONE, FURTHER}
use Rattle.my_server.specs.declared.script.ServerSet.{ServerSet}
use Rattle.my_server.specs.Answer.{column_of, column_payload, end_payload, row_payload, set_payloads, set_status, sets_payloads}
use Rattle.server_laws.specs.Conversation.{AreSets, IsSet}
use Rattle.server_laws.proofs.Hearing.{Heard, heard_none, heard_one, heard_then}
use Rattle.server_laws.proofs.PayloadKinds.{PacketLaws, column_back, column_is, end_is, head_count, row_back, row_is}

-- A name and a row that are read back, in payloads within the limit.
abbrev pub IsName : ℕ → List ℕ → Type 0
IsName limit name = (length name < 2 ^ 64) × (length (column_payload name) ≤ limit)

abbrev pub IsRow : ℕ → ℕ → List (Option (List ℕ)) → Type 0
IsRow limit columns row = (length row ≡ columns) × TextsFit row × (length (row_payload row) ≤ limit)

pub record IsGoodSet (limit : ℕ) (status : StatusFlags) (set : ServerSet) : Type 0 where
  pub some : 0 < length set.names
  pub few : length set.names ≤ 65535
  pub count : length (server_bytes (packets.Count (length set.names))) ≤ limit
  pub names : AllByRecursion (IsName limit) set.names
  pub rows : AllByRecursion (IsRow limit (length set.names)) set.rows
  pub ended : length (end_payload true status) ≤ limit

-- the head with these columns more, and the rows with these more
abbrev pub with_columns : SetHead → List (List ℕ) → SetHead
with_columns head [] = head
with_columns head (name ∷ names) = with_columns (with_column_of head (column_payload name)) names

abbrev pub with_rows : List (List ℕ) → List (List (Option (List ℕ))) → List (List ℕ)
with_rows rows [] = rows
with_rows rows (row ∷ more) = with_rows (row_payload row ∷ rows) more

abbrev pub head_of : ServerSet → SetHead
head_of set = with_columns (record { count = server_bytes (packets.Count (length set.names)); number = length set.names; columns = []; close = None }) set.names

abbrev pub ended_set : Sets → StatusFlags → ServerSet → Sets
ended_set older status set = Ended older (head_of set) (with_rows [] set.rows) (end_payload true status) status

abbrev pub sets_from : Sets → List ServerSet → Sets
sets_from older [] = older
sets_from older (set ∷ sets) = sets_from (ended_set older (set_status (length sets)) set) sets

last_column : (terms : Terms) (c : List ℕ) (older : Sets) (head : SetHead) (p : List ℕ) → deprecates_eof terms.kept ≡ true
    → grow kinds.Column (Queried terms c (Heading older head 1)) p ≡ Queried terms c (Begun older (with_column_of head p) [])
last_column terms c older head p d =
    ap (λ (b : Bool). Queried terms c (cond b (Begun older (with_column_of head p) []) (Headed older (with_column_of head p)))) d

further_column : (terms : Terms) (c : List ℕ) (older : Sets) (head : SetHead) (p : List ℕ) (left : ℕ) → 0 < left
    → grow kinds.Column (Queried terms c (Heading older head (suc left))) p ≡ Queried terms c (Heading older (with_column_of head p) left)
further_column terms c older head p left some =
    let t : leb (suc left) 1 ≡ false = grind (arith, nat_tests) in
    let e : suc left - 1 ≡ left = omega arith in
    let d = deprecates_eof terms.kept in
    let next = with_column_of head p in
    ap (λ (b : Bool). Queried terms c (cond b (cond d (Begun older next []) (Headed older next)) (Heading older next (suc left - 1)))) t ∙ ap (λ n. Queried terms c (Heading older next n)) e

columns_heard : (laws : PacketLaws) (terms : Terms) (c : List ℕ) (older : Sets) (head : SetHead) (name : List ℕ) (names : List (List ℕ)) → deprecates_eof terms.kept ≡ true
    → AllByRecursion (IsName terms.limit) (name ∷ names) → Fits (Queried terms c (Heading older head (suc (length names))))
    → Heard (Queried terms c (Heading older head (suc (length names)))) (map column_payload (name ∷ names)) (Queried terms c (Begun older (with_columns head (name ∷ names)) []))
columns_heard laws terms c older head name [] d good fits =
    subst (λ (t : Talk). Heard (Queried terms c (Heading older head 1)) (column_payload name ∷ []) t) (last_column terms c older head (column_payload name) d)
    (heard_one (Queried terms c (Heading older head 1)) kinds.Column (column_payload name) (column_is laws name good.0.0) refl refl good.0.1 fits)
columns_heard laws terms c older head name (second ∷ names) d good fits =
    let left = suc (length names) in
    let t = Queried terms c (Heading older head (suc left)) in
    let u = Queried terms c (Heading older (with_column_of head (column_payload name)) left) in
    let one = subst (λ (v : Talk). Heard t (column_payload name ∷ []) v) (further_column terms c older head (column_payload name) left (omega arith))
    (heard_one t kinds.Column (column_payload name) (column_is laws name good.0.0) refl refl good.0.1 fits) in
    let w = columns_heard laws terms c older (with_column_of head (column_payload name)) second names d good.1 one.fits in
    heard_then t u _ (column_payload name ∷ []) (map column_payload (second ∷ names)) one w

rows_heard : (laws : PacketLaws) (terms : Terms) (c : List ℕ) (older : Sets) (head : SetHead) (rows : List (List ℕ)) (more : List (List (Option (List ℕ)))) → deprecates_eof terms.kept ≡ true → format_in older ≡ Text
    → 0 < head.number → AllByRecursion (IsRow terms.limit head.number) more → Fits (Queried terms c (Begun older head rows))
    → Heard (Queried terms c (Begun older head rows)) (map row_payload more) (Queried terms c (Begun older head (with_rows rows more)))
rows_heard laws terms c older head rows [] d text some good fits = heard_none (Queried terms c (Begun older head rows)) fits
rows_heard laws terms c older head rows (row ∷ more) d text some good fits =
    let t = Queried terms c (Begun older head rows) in
    let u = Queried terms c (Begun older head (row_payload row ∷ rows)) in
    let e = good.0.0 in
    let is = subst (λ n. row_kind Text true n (head_columns head) (row_payload row) ≡ kinds.Row) e (row_is row (head_columns head) (omega arith) good.0.1) in
    let there = subst (λ (b : Bool). row_kind (format_in older) b head.number (head_columns head) (row_payload row) ≡ kinds.Row) (sym d)
    (subst (λ (f : RowFormat). row_kind f true head.number (head_columns head) (row_payload row) ≡ kinds.Row) (sym text) is) in
    let one = heard_one t kinds.Row (row_payload row) there refl refl good.0.2 fits in
    heard_then t u _ (row_payload row ∷ []) (map row_payload more) one (rows_heard laws terms c older head (row_payload row ∷ rows) more d text some good.1 one.fits)

number_stays : (head : SetHead) (names : List (List ℕ)) → (with_columns head names).number ≡ head.number
number_stays head [] = refl
number_stays head (name ∷ names) = number_stays (with_column_of head (column_payload name)) names

set_heard : (laws : PacketLaws) (terms : Terms) (c : List ℕ) (older : Sets) (status : StatusFlags) (set : ServerSet) → deprecates_eof terms.kept ≡ true → format_in older ≡ Text
    → status.0 < 2 ^ 16 → is_head (spot_in older) ≡ true → IsGoodSet terms.limit status set → Fits (Queried terms c older)
    → Heard (Queried terms c older) (set_payloads true status set) (Queried terms c (ended_set older status set))
set_heard laws terms c older status set d text small place good fits = by_names set.names refl
  where
    by_names : (names : List (List ℕ)) → set.names ≡ names → Heard (Queried terms c older) (set_payloads true status set) (Queried terms c (ended_set older status set))
    by_names [] e = let some = good.some in let l : length set.names ≡ 0 = ap length e in absurd (omega arith)
    by_names (name ∷ names) e =
        let n = length set.names in
        let count = server_bytes (packets.Count n) in
        let head : SetHead = record { count = count; number = n; columns = []; close = None } in
        let t = Queried terms c older in
        let begun = Queried terms c (Heading older head n) in
        let one : Heard t (count ∷ []) begun = heard_one t (kinds.Count n) count (head_kind_is (spot_in older) _ (deprecates_eof terms.kept) _ _ count place ∙ head_count laws n good.some good.few) refl refl good.count fits in
        let columns : Heard begun (map column_payload set.names) (Queried terms c (Begun older (with_columns head set.names) [])) =
        subst (λ (ns : List (List ℕ)). AllByRecursion (IsName terms.limit) ns → Fits (Queried terms c (Heading older head (length ns))) → Heard (Queried terms c (Heading older head (length ns))) (map column_payload ns) (Queried terms c (Begun older (with_columns head ns) []))) (sym e) (columns_heard laws terms c older head name names d) good.names one.fits in
        let whole = with_columns head set.names in
        let number : whole.number ≡ n = number_stays head set.names in
        let some = good.some in
        let rows = rows_heard laws terms c older whole [] set.rows d text (omega arith) (subst (λ k. AllByRecursion (IsRow terms.limit k) set.rows) (sym number) good.rows) columns.fits in
        let filled = with_rows [] set.rows in
        let u = Queried terms c (Begun older whole filled) in
        let last = end_payload true status in
        let end = heard_one u (kinds.End status) last (subst (λ (b : Bool). row_kind (format_in older) b whole.number (head_columns whole) last ≡ kinds.End status) (sym d) (end_is laws (format_in older) whole.number (head_columns whole) status small)) refl refl good.ended rows.fits in
        let headed = heard_then t begun _ (count ∷ []) (map column_payload set.names) one columns in
        let closed = subst (λ ps. Heard t ps (Queried terms c (Begun older whole []))) (sym (append-nil (count ∷ map column_payload set.names))) headed in
        let with_all = heard_then t _ u _ (map row_payload set.rows) closed rows in
        heard_then t u _ _ (last ∷ []) with_all end

status_more : (n : ℕ) → set_status (suc n) ≡ FURTHER
status_more n = let t : eqb (suc n) 0 ≡ false = grind (arith, nat_tests) in rw t refl

status_small : (n : ℕ) → (set_status n).0 < 2 ^ 16
status_small n = by_test (eqb n 0)
  where
    by_test : (b : Bool) → (cond b DONE FURTHER).0 < 2 ^ 16
    by_test true = lit< tt
    by_test false = lit< tt

-- each set is good with the status that it ends with
abbrev pub AreGood : ℕ → List ServerSet → Type 0
AreGood limit [] = Unit {0}
AreGood limit (set ∷ sets) = IsGoodSet limit (set_status (length sets)) set × AreGood limit sets

pub sets_heard : (laws : PacketLaws) (terms : Terms) (c : List ℕ) (older : Sets) (set : ServerSet) (sets : List ServerSet) → deprecates_eof terms.kept ≡ true → format_in older ≡ Text
    → is_head (spot_in older) ≡ true → AreGood terms.limit (set ∷ sets) → Fits (Queried terms c older)
    → Heard (Queried terms c older) (sets_payloads true (set ∷ sets)) (Queried terms c (sets_from older (set ∷ sets)))
sets_heard laws terms c older set [] d text place good fits =
    let status = set_status 0 in
    subst (λ ps. Heard (Queried terms c older) ps (Queried terms c (ended_set older status set))) (sym (append-nil (set_payloads true status set))) (set_heard laws terms c older status set d text (status_small 0) place good.0 fits)
sets_heard laws terms c older set (second ∷ sets) d text place good fits =
    let n = suc (length sets) in
    let status = set_status n in
    let one = set_heard laws terms c older status set d text (status_small n) place good.0 fits in
    let next : is_head (spot_in (ended_set older status set)) ≡ true = ap (λ (s : StatusFlags). is_head (spot_in (ended_set older s set))) (status_more (length sets)) in
    let all = sets_heard laws terms c (ended_set older status set) second sets d text next good.1 one.fits in
    heard_then (Queried terms c older) (Queried terms c (ended_set older status set)) _ (set_payloads true status set) (sets_payloads true (second ∷ sets)) one all

pub sets_are_over : (older : Sets) (set : ServerSet) (sets : List ServerSet) → spot_in (sets_from older (set ∷ sets)) ≡ spots.Idle
sets_are_over older set [] = refl
sets_are_over older set (second ∷ sets) = sets_are_over (ended_set older (set_status (suc (length sets))) set) second sets

columns_are : (head : SetHead) (names : List (List ℕ)) → (with_columns head names).columns ≡ reverse (map column_payload names) ++ head.columns
columns_are head [] = refl
columns_are head (name ∷ names) =
    let p = column_payload name in
    columns_are (with_column_of head p) names ∙ sym (append_assoc (reverse (map column_payload names)) (p ∷ []) head.columns) ∙ ap (λ x. x ++ head.columns) (sym (reverse-append (p ∷ []) (map column_payload names)))

rows_are : (rows : List (List ℕ)) (more : List (List (Option (List ℕ)))) → with_rows rows more ≡ reverse (map row_payload more) ++ rows
rows_are rows [] = refl
rows_are rows (row ∷ more) =
    let p = row_payload row in
    rows_are (p ∷ rows) more ∙ sym (append_assoc (reverse (map row_payload more)) (p ∷ []) rows) ∙ ap (λ x. x ++ rows) (sym (reverse-append (p ∷ []) (map row_payload more)))

back_again : (ps : List (List ℕ)) → reverse (reverse ps ++ []) ≡ ps
back_again ps = ap reverse (append-nil (reverse ps)) ∙ reverse-reverse ps

columns_back : (laws : PacketLaws) (limit : ℕ) (names : List (List ℕ)) → AllByRecursion (IsName limit) names → map column_at (map column_payload names) ≡ map (λ name. Some (column_of name)) names
columns_back laws limit [] good = refl
columns_back laws limit (name ∷ names) good =
    let a = column_back laws name good.0.0 in
    let b = columns_back laws limit names good.1 in
    cc

rows_back : (limit n : ℕ) (rows : List (List (Option (List ℕ)))) → 0 < n → AllByRecursion (IsRow limit n) rows → map (text_row_at n) (map row_payload rows) ≡ map (λ row. Some (map sent_value row)) rows
rows_back limit n [] some good = refl
rows_back limit n (row ∷ rows) some good =
    let e = good.0.0 in
    let a = subst (λ k. text_row_at k (row_payload row) ≡ Some (map sent_value row)) e (row_back row (omega arith) good.0.1) in
    let b = rows_back limit n rows some good.1 in
    cc

set_is : (laws : PacketLaws) (limit : ℕ) (status : StatusFlags) (set : ServerSet) → IsGoodSet limit status set → IsSet set (head_of set) (with_rows [] set.rows)
set_is laws limit status set good =
    let n = length set.names in
    let head : SetHead = record { count = server_bytes (packets.Count n); number = n; columns = []; close = None } in
    let number : (head_of set).number ≡ n = number_stays head set.names in
    record {
      number = number;
      columns = ap (λ x. map column_at (reverse x)) (columns_are head set.names) ∙ ap (λ x. map column_at x) (back_again (map column_payload set.names)) ∙ columns_back laws limit set.names good.names;
      cells = ap (λ k. map (text_row_at k) (reverse (with_rows [] set.rows))) number ∙ ap (λ x. map (text_row_at n) (reverse x)) (rows_are [] set.rows) ∙ ap (λ x. map (text_row_at n) x) (back_again (map row_payload set.rows)) ∙ rows_back limit n set.rows good.some good.rows;
    }

sets_read : (laws : PacketLaws) (limit : ℕ) (older : Sets) (before sets : List ServerSet) → AreGood limit sets → AreSets before older → AreSets (reverse sets ++ before) (sets_from older sets)
sets_read laws limit older before [] good are = are
sets_read laws limit older before (set ∷ sets) good are =
    let status = set_status (length sets) in
    let rest = sets_read laws limit (ended_set older status set) (set ∷ before) sets good.1 (set_is laws limit status set good.0, are) in
    let e : reverse sets ++ (set ∷ before) ≡ reverse (set ∷ sets) ++ before = sym (append_assoc (reverse sets) (set ∷ []) before) ∙ ap (λ x. x ++ before) (sym (reverse-append (set ∷ []) sets)) in
    subst (λ x. AreSets x (sets_from older (set ∷ sets))) e rest

pub sets_are_read : (laws : PacketLaws) (limit : ℕ) (sets : List ServerSet) → AreGood limit sets → AreSets (reverse sets) (sets_from (NoSets ByText) sets)
sets_are_read laws limit sets good = subst (λ x. AreSets x (sets_from (NoSets ByText) sets)) (append-nil (reverse sets)) (sets_read laws limit (NoSets ByText) [] sets good refl)
