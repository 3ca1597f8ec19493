-- While rows are read, the columns that a client knows are those that the exchange describes.
use Rattle.std.proofs.Common.{◌≡◌, ℕ, ◌+◌, ◌-◌, ◌<◌, List, [], ◌∷◌, ◌++◌, length, Bool, true, false, cond, leb, Option, Some, None, refl, sym, ap, ◌∙◌, subst, arith, length-append}
use Rattle.std.proofs.lemmas.Bool.Decides.{nat_tests}
use Rattle.my_flags.specs.Sets.{deprecates_eof, has_more_results}
use Rattle.my_reply.specs.declared.column.Column.{Column}
use Rattle.my_reply.specs.Column.{column_at}
use Rattle.my_auth.specs.declared.chain.AuthStand.{AuthStand}
use Rattle.my_grammar.specs.declared.packet.Packet.{Packet}
use Rattle.my_grammar.specs.declared.spot.Context.{Context}
use Rattle.my_grammar.specs.declared.spot.Kind.TheVariants as kinds
use Rattle.my_grammar.specs.declared.spot.RowFormat.{RowFormat}
use Rattle.my_grammar.specs.declared.spot.Spot.{Spot}
use Rattle.my_grammar.specs.declared.spot.Spot.TheVariants as spots
use Rattle.my_grammar.specs.Cut.{kind_of}
use Rattle.my_grammar.specs.FitSets.{AreColumns, IsBegun}
use Rattle.my_grammar.specs.Kinds.{head_kind, described_kind, kind_by, kind_there}
use Rattle.my_grammar.specs.Prepares.{Reply, Unanswered, Refused, InParameters, AfterParameters, InFields, AfterFields, Complete, spot_in_reply}
use Rattle.my_grammar.specs.Sets.{SetHead, Sets, NoSets, Lone, Failed, Heading, Headed, Begun, Ended, Broken, each, at_most_one, head_packets, packets_in, column_list, columns_in_order, head_columns}
use Rattle.my_grammar.specs.Talk.{Talk, Start, Unwelcome, Greeted, Asked, Replied, Changing, Queried, Preparing, Silent, chain_spot, greeted_stand, packets_of, stand_in, context_of, described, Fits}
use Rattle.my_grammar.proofs.Growth.Known.{is_head_kind, known_head, is_then}
use Rattle.my_reading.specs.declared.facts.Facts.{Facts}
use Rattle.my_reading.specs.Facts.{counted, with_column, facts_by}

column_there : (o : Option Column) → described_kind kinds.Column o ≡ kinds.Column → (c : Column) × (o ≡ Some c)
column_there None e = cc
column_there (Some c) e = (c, refl)

-- what is known of the columns while a head is read: left of them are awaited, and these were gathered
record Gathers (f : Facts) (left : ℕ) (columns : List Column) : Type 0 where
  left_is : f.left ≡ left
  gathered_is : f.gathered ≡ columns

-- a head with this column, whole or not
abbrev whole_by : Facts → Column → Facts
whole_by f c = record { version = f.version; connection = f.connection; caching = f.caching; nonce = f.nonce; status = f.status; ok = f.ok; left = 0; gathered = []; columns = f.gathered ++ c ∷ []; settings = f.settings; reply = f.reply; place = f.place }

abbrev part_by : Facts → Column → Facts
part_by f c = record { version = f.version; connection = f.connection; caching = f.caching; nonce = f.nonce; status = f.status; ok = f.ok; left = f.left - 1; gathered = f.gathered ++ c ∷ []; columns = f.columns; settings = f.settings; reply = f.reply; place = f.place }

joined : (f : Facts) (c : Column) (ps : List (List ℕ)) (p : List ℕ) → column_at p ≡ Some c → f.gathered ≡ columns_in_order ps → f.gathered ++ c ∷ [] ≡ columns_in_order (p ∷ ps)
joined f c ps p is g = ap (λ cs. cs ++ c ∷ []) g ∙ ap (λ o. columns_in_order ps ++ column_list o) (sym is)

gathers_if : (last : Bool) (f : Facts) (c : Column) (ps : List (List ℕ)) (p : List ℕ) (left : ℕ) → column_at p ≡ Some c → leb f.left 1 ≡ last → f.left ≡ left + 1 → 0 < left → f.gathered ≡ columns_in_order ps → Gathers (cond last (whole_by f c) (part_by f c)) left (columns_in_order (p ∷ ps))
gathers_if true f c ps p left is last l some g = absurd (grind (arith, nat_tests))
gathers_if false f c ps p left is last l some g = record { left_is = omega arith; gathered_is = joined f c ps p is g }

last_if : (last : Bool) (f : Facts) (c : Column) (ps : List (List ℕ)) (p : List ℕ) → column_at p ≡ Some c → leb f.left 1 ≡ last → f.left ≡ 1 → f.gathered ≡ columns_in_order ps → (cond {A = Facts} last (whole_by f c) (part_by f c)).columns ≡ columns_in_order (p ∷ ps)
last_if true f c ps p is last l g = joined f c ps p is g
last_if false f c ps p is last l g = absurd (grind (arith, nat_tests))

module _ (f : Facts) (count : List ℕ) (number : ℕ) (others : List Packet) where
  -- the facts after a head's count and some columns
  abbrev following : List (List ℕ) → Facts
  following ps = facts_by (each kinds.Column ps (record { kind = kinds.Count number; payload = count } ∷ others)) f

  gathers : (ps : List (List ℕ)) → AreColumns ps → length ps < number → Gathers (following ps) (number - length ps) (columns_in_order ps)
  gathers [] a less = record { left_is = omega arith; gathered_is = refl }
  gathers (p ∷ ps) a less =
      let old = gathers ps a.1 (omega arith) in
      let c = column_there (column_at p) a.0 in
      let l = old.left_is in
      subst (λ (o : Option Column). Gathers (counted (with_column o (following ps))) (number - length (p ∷ ps)) (columns_in_order (p ∷ ps))) (sym c.1)
      (counts _ _ _ (gathers_if (leb (following ps).left 1) (following ps) c.0 ps p (number - length (p ∷ ps)) c.1 refl (omega arith) (omega arith) old.gathered_is))
    where
      counts : (g : Facts) (left : ℕ) (columns : List Column) → Gathers g left columns → Gathers (counted g) left columns
      counts g left columns w = record { left_is = w.left_is; gathered_is = w.gathered_is }

  -- after the last column the set's columns are those of the head
  all_columns : (ps : List (List ℕ)) → AreColumns ps → length ps ≡ number → 0 < number → (following ps).columns ≡ columns_in_order ps
  all_columns [] a all some = absurd (omega arith)
  all_columns (p ∷ ps) a all some =
      let old = gathers ps a.1 (omega arith) in
      let c = column_there (column_at p) a.0 in
      let l = old.left_is in
      subst (λ (o : Option Column). (counted (with_column o (following ps))).columns ≡ columns_in_order (p ∷ ps)) (sym c.1)
      (last_if (leb (following ps).left 1) (following ps) c.0 ps p c.1 refl (omega arith) old.gathered_is)

  -- and stay so while its rows are read
  closed_columns : (ps : List (List ℕ)) (close : Option (List ℕ)) → AreColumns ps → length ps ≡ number → 0 < number → (facts_by (at_most_one kinds.ColumnsDone close (each kinds.Column ps (record { kind = kinds.Count number; payload = count } ∷ others))) f).columns ≡ columns_in_order ps
  closed_columns ps None a all some = all_columns ps a all some
  closed_columns ps (Some q) a all some = all_columns ps a all some

rows_keep : (f : Facts) (rows : List (List ℕ)) (others : List Packet) → (facts_by (each kinds.Row rows others) f).columns ≡ (facts_by others f).columns
rows_keep f [] others = refl
rows_keep f (p ∷ ps) others = rows_keep f ps others

some_columns : (count : List ℕ) (n : ℕ) → head_kind count ≡ kinds.Count n → 0 < n
some_columns count n e = let t : leb 1 n ≡ true = is_then is_head_kind (head_kind count) (kinds.Count n) (known_head count) e in grind (arith, nat_tests)

-- while rows are read, the columns that are known are those of the head
row_columns : (d : Bool) (f : Facts) (older : Sets) (head : SetHead) (rows : List (List ℕ)) → IsBegun d older head rows → (facts_by (packets_in (Begun older head rows)) f).columns ≡ head_columns head
row_columns d f older head rows b =
    let all = b.heading.all in
    rows_keep f rows (head_packets head (packets_in older))
    ∙ closed_columns f head.count head.number (packets_in older) head.columns head.close b.heading.columns (omega arith) (some_columns head.count head.number b.heading.count)

columns_length : (ps : List (List ℕ)) → AreColumns ps → length (columns_in_order ps) ≡ length ps
columns_length [] a = refl
columns_length (p ∷ ps) a =
    let c = column_there (column_at p) a.0 in
    let older = columns_length ps a.1 in
    let one : length (column_list (column_at p)) ≡ 1 = ap (λ (o : Option Column). length (column_list o)) c.1 in
    let both = length-append (columns_in_order ps) (column_list (column_at p)) in
    omega arith

-- The columns of the set whose rows are read: those that are known, and as many as the head counts.
pub record AtRows (t : Talk) : Type 0 where
  pub known : (f : Facts) → (facts_by (packets_of t) f).columns ≡ described t
  pub all : (context_of t).columns ≡ length (described t)

-- after an OK or an end, and in a reply to a statement to prepare, no row is awaited
pub not_rows : (t : Bool) → cond t spots.Further spots.Idle ≡ spots.Rows → ⊥
not_rows true e = cc
not_rows false e = cc

pub reply_not_rows : (r : Reply) → spot_in_reply r ≡ spots.Rows → ⊥
reply_not_rows Unanswered e = cc
reply_not_rows (Refused p) e = cc
reply_not_rows (InParameters head ps left) e = cc
reply_not_rows (AfterParameters head ps) e = cc
reply_not_rows (InFields head w ps left) e = cc
reply_not_rows (AfterFields head w ps) e = cc
reply_not_rows (Complete head w v) e = cc

pub chain_not_rows : (o : Option AuthStand) → chain_spot o ≡ spots.Rows → ⊥
chain_not_rows None e = cc
chain_not_rows (Some stand) e = cc

pub at_rows : (t : Talk) → Fits t → (context_of t).spot ≡ spots.Rows → AtRows t
at_rows (Start login) fits e = cc
at_rows (Unwelcome login q) fits e = cc
at_rows (Greeted login q offer chain) fits e = absurd (chain_not_rows (stand_in (greeted_stand login offer) chain) e)
at_rows (Asked terms c) fits e = cc
at_rows (Replied terms c last kind) fits e = cc
at_rows (Changing terms secret stand c chain) fits e = absurd (chain_not_rows (stand_in stand chain) e)
at_rows (Queried terms c (NoSets asking)) fits e = cc
at_rows (Queried terms c (Lone older q s)) fits e = absurd (not_rows (has_more_results s) e)
at_rows (Queried terms c (Failed older q)) fits e = cc
at_rows (Queried terms c (Heading older head left)) fits e = cc
at_rows (Queried terms c (Headed older head)) fits e = cc
at_rows (Queried terms c (Begun older head rows)) fits e =
    let begun = fits.kinds.0 in
    let all = begun.heading.all in
    let each = columns_length head.columns begun.heading.columns in
    record { known = λ f. row_columns (deprecates_eof terms.kept) f older head rows begun; all = omega arith }
at_rows (Queried terms c (Ended older head rows last s)) fits e = absurd (not_rows (has_more_results s) e)
at_rows (Queried terms c (Broken older head rows last)) fits e = cc
at_rows (Preparing terms c reply) fits e = absurd (reply_not_rows reply e)
at_rows (Silent terms c) fits e = cc

-- only in the place of a row does it matter which columns they are
kind_same : (s : Spot) (rows : RowFormat) (d : Bool) (n : ℕ) (cs ds : List Column) (p : List ℕ) → (s ≡ spots.Rows → cs ≡ ds) → kind_by s rows d n cs p ≡ kind_by s rows d n ds p
kind_same spots.Idle rows d n cs ds p e = refl
kind_same (spots.Greeting rules) rows d n cs ds p e = refl
kind_same (spots.Authentication stand) rows d n cs ds p e = refl
kind_same spots.Single rows d n cs ds p e = refl
kind_same spots.Head rows d n cs ds p e = refl
kind_same spots.Further rows d n cs ds p e = refl
kind_same (spots.Columns left) rows d n cs ds p e = refl
kind_same spots.ColumnsEnd rows d n cs ds p e = refl
kind_same spots.Rows rows d n cs ds p e = ap (λ x. kind_by spots.Rows rows d n x p) (e refl)
kind_same spots.Prepare rows d n cs ds p e = refl
kind_same (spots.Parameters left columns) rows d n cs ds p e = refl
kind_same (spots.ParametersEnd columns) rows d n cs ds p e = refl
kind_same (spots.Fields left) rows d n cs ds p e = refl
kind_same spots.FieldsEnd rows d n cs ds p e = refl

-- a payload is to a client that knows these columns what it is in the exchange
pub kind_known : (t : Talk) (f : Facts) (p : List ℕ) → Fits t → kind_there (context_of t) (facts_by (packets_of t) f).columns p ≡ kind_of t p
kind_known t f p fits =
    kind_same (context_of t).spot (context_of t).rows (deprecates_eof (context_of t).terms.kept) (context_of t).columns (facts_by (packets_of t) f).columns (described t) p (λ e. (at_rows t fits e).known f)

-- the same of a client that has this context and knows these facts
pub kind_is : (t : Talk) (f : Facts) (c : Context) (known : Facts) (p : List ℕ) → Fits t → c ≡ context_of t → known ≡ facts_by (packets_of t) f → kind_there c known.columns p ≡ kind_of t p
kind_is t f c known p fits context facts =
    ap (λ (c : Context). kind_there c known.columns p) context ∙ ap (λ (k : Facts). kind_there (context_of t) k.columns p) facts ∙ kind_known t f p fits

-- as many columns as its context counts
pub told_columns : (t : Talk) (f : Facts) → Fits t → (context_of t).spot ≡ spots.Rows → (context_of t).columns ≡ length (facts_by (packets_of t) f).columns
told_columns t f fits e = let w = at_rows t fits e in w.all ∙ ap length (sym (w.known f))
