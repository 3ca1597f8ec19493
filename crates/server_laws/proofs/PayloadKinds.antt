-- What the payloads of a scripted server are to the grammar.
use Rattle.std.proofs.Common.{◌≡◌, ◌≢◌, ℕ, ◌<◌, ◌≤◌, ◌^◌, inl, inr, List, ◌∷◌, length, map, Bool, true, false, cond, ltb, lit<, Option, Some, None, refl, ap, ◌∙◌, arith}
use Rattle.std.proofs.lemmas.Bool.Decides.{nat_tests}
use Rattle.my_flags.specs.declared.flags.StatusFlags.{StatusFlags}
use Rattle.my_frame.specs.declared.limits.TheConstants.{FULL_LENGTH}
use Rattle.my_frame.specs.Numbers.{head_at, ◌>>=◌}
use Rattle.my_frame.specs.Reading.{ReadsBack}
use Rattle.my_frame.specs.Writing.{le_bytes, len_bytes}
use Rattle.my_handshake.specs.Greeting.{greeting_at}
use Rattle.my_reply.specs.declared.ok.OkPacket.{OkPacket}
use Rattle.my_reply.specs.declared.err.ErrPacket.{ErrPacket}
use Rattle.my_reply.specs.declared.column.Column.{Column}
use Rattle.my_grammar.specs.declared.spot.RowFormat.{RowFormat}
use Rattle.my_grammar.specs.declared.spot.RowFormat.TheVariants.{Text}
use Rattle.my_reply.specs.declared.column_count.ColumnCount.{ColumnCount}
use Rattle.my_reply.specs.declared.server.ServerPacket.TheVariants as packets
use Rattle.my_reply.specs.Column.{column_at}
use Rattle.my_reply.specs.ColumnCount.{column_count_at}
use Rattle.my_reply.specs.ErrPacket.{err_at}
use Rattle.my_reply.specs.OkPacket.{end_ok_at, fields_at, ok_at}
use Rattle.my_reply.specs.Sent.{IsSentColumn, IsSentCount, IsSentEndOk, IsSentErr, IsSentGreeting, IsSentOk}
use Rattle.my_reply.specs.Server.{server_bytes}
use Rattle.my_value.specs.TextRow.{text_row_at}
use Rattle.my_value.specs.WrittenRow.{TextsFit, sent_value}
use Rattle.my_value.proofs.Rows.WrittenRows.{text_row_read_back}
use Rattle.my_grammar.specs.declared.spot.Kind.TheVariants as kinds
use Rattle.my_grammar.specs.Kinds.{cells_at, cells_kind, column_kind, count_kind, ended_kind, failed_kind, good_kind, head_kind, or_else, row_kind, single_kind, described_kind}
use Rattle.my_server.specs.Answer.{column_of, column_payload, ok_of, row_payload}
use Rattle.server_laws.proofs.Heads.{BeginsCell, length_head, no_head, reads_none, row_head}

-- what is written is read back: laws of the packets
pub record PacketLaws : Type 0 where
  pub greeting : ReadsBack IsSentGreeting (λ g. server_bytes (packets.Greeting g)) greeting_at
  pub ok : ReadsBack IsSentOk (λ ok. server_bytes (packets.Fine ok)) ok_at
  pub end_ok : ReadsBack IsSentEndOk (λ ok. server_bytes (packets.End ok)) end_ok_at
  pub err : ReadsBack IsSentErr (λ err. server_bytes (packets.Refuse err)) (err_at false)
  pub count : (cached : Bool) → ReadsBack IsSentCount (λ n. server_bytes (packets.Count n.count)) (column_count_at cached)
  pub column : ReadsBack IsSentColumn (λ c. server_bytes (packets.Column c)) column_at

pub typed_ok : (status : StatusFlags) → status.0 < 2 ^ 16 → IsSentOk (ok_of status)
typed_ok status small = record { affected = lit< tt; insert = lit< tt; status = small; warnings = lit< tt; info = lit< tt }

err_is_no_ok : (err : ErrPacket) → ok_at (server_bytes (packets.Refuse err)) ≡ None
unfolding le_bytes
err_is_no_ok err = refl

pub single_ok : (laws : PacketLaws) (ok : OkPacket) → IsSentOk ok → single_kind (server_bytes (packets.Fine ok)) ≡ kinds.Good ok.status
single_ok laws ok typed = ap (λ o. or_else (good_kind o) (failed_kind (err_at false (server_bytes (packets.Fine ok))))) (laws.ok ok typed)

pub single_err : (laws : PacketLaws) (err : ErrPacket) → IsSentErr err → single_kind (server_bytes (packets.Refuse err)) ≡ kinds.Failed
single_err laws err typed =
    ap (λ o. or_else (good_kind o) (failed_kind (err_at false (server_bytes (packets.Refuse err))))) (err_is_no_ok err) ∙ ap failed_kind (laws.err err typed)

pub head_ok : (laws : PacketLaws) (ok : OkPacket) → IsSentOk ok → head_kind (server_bytes (packets.Fine ok)) ≡ kinds.Good ok.status
head_ok laws ok typed =
    let p = server_bytes (packets.Fine ok) in
    ap (λ o. or_else (good_kind o) (or_else (failed_kind (err_at false p)) (count_kind (column_count_at false p)))) (laws.ok ok typed)

pub head_err : (laws : PacketLaws) (err : ErrPacket) → IsSentErr err → head_kind (server_bytes (packets.Refuse err)) ≡ kinds.Failed
head_err laws err typed =
    let p = server_bytes (packets.Refuse err) in
    ap (λ o. or_else (good_kind o) (or_else (failed_kind (err_at false p)) (count_kind (column_count_at false p)))) (err_is_no_ok err)
    ∙ ap (λ o. or_else (failed_kind o) (count_kind (column_count_at false p))) (laws.err err typed)

begins_no_ok : (p : List ℕ) (head : ℕ) (rest : List ℕ) → p ≡ head ∷ rest → head ≢ 0 → ok_at p ≡ None
begins_no_ok p head rest e ne =
    reads_none (head_at 0x00 p) fields_at (ap (λ x. head_at 0x00 x) e ∙ no_head 0x00 head rest ne)

begins_no_err : (p : List ℕ) (head : ℕ) (rest : List ℕ) → p ≡ head ∷ rest → head ≢ 0xFF → err_at false p ≡ None
begins_no_err p head rest e ne =
    reads_none (head_at 0xFF p) _ (ap (λ x. head_at 0xFF x) e ∙ no_head 0xFF head rest ne)

pub head_count : (laws : PacketLaws) (n : ℕ) → 0 < n → n ≤ 65535 → head_kind (server_bytes (packets.Count n)) ≡ kinds.Count n
head_count laws n some few =
    let p = server_bytes (packets.Count n) in
    let w = length_head n in
    let count : ColumnCount = record { count = n; skipped = false } in
    ap (λ o. or_else (good_kind o) (or_else (failed_kind (err_at false p)) (count_kind (column_count_at false p)))) (begins_no_ok p w.head w.rest w.spelled (w.no_ok some))
    ∙ ap (λ o. or_else (failed_kind o) (count_kind (column_count_at false p))) (begins_no_err p w.head w.rest w.spelled w.no_err)
    ∙ ap count_kind (laws.count false count (record { some = some; few = few; follow = refl }))

pub column_back : (laws : PacketLaws) (name : List ℕ) → length name < 2 ^ 64 → column_at (column_payload name) ≡ Some (column_of name)
column_back laws name short = laws.column (column_of name) (record {
  schema = lit< tt;
  table = lit< tt;
  org_table = lit< tt;
  name = short;
  org_name = lit< tt;
  charset = lit< tt;
  max_length = lit< tt;
  column_type = lit< tt;
  flags = lit< tt;
  decimals = lit< tt;
})

pub column_is : (laws : PacketLaws) (name : List ℕ) → length name < 2 ^ 64 → column_kind (column_payload name) ≡ kinds.Column
column_is laws name short = ap (described_kind kinds.Column) (column_back laws name short)

begins_no_end : (p : List ℕ) → (w : BeginsCell p) → end_ok_at p ≡ None
begins_no_end p w =
    elim w.no_end [
      | inl ne ↦ by_head (ltb (length p) FULL_LENGTH) (reads_none (head_at 0xFE p) fields_at (ap (λ x. head_at 0xFE x) w.spelled ∙ no_head 0xFE w.head w.rest ne))
      | inr long ↦ let t : ltb (length p) FULL_LENGTH ≡ false = grind (arith, nat_tests) in ap (λ b. cond b (head_at 0xFE p >>= fields_at) None) t
    ]
  where
    by_head : (b : Bool) {o : Option OkPacket} → o ≡ None → cond b o None ≡ None
    by_head true e = e
    by_head false e = refl

pub row_back : (cells : List (Option (List ℕ))) → 0 < length cells → TextsFit cells → text_row_at (length cells) (row_payload cells) ≡ Some (map sent_value cells)
row_back cells some fit = text_row_read_back cells some fit

pub row_is : (cells : List (Option (List ℕ))) (columns : List Column) → 0 < length cells → TextsFit cells → row_kind Text true (length cells) columns (row_payload cells) ≡ kinds.Row
row_is cells columns some fit =
    let p = row_payload cells in
    let w = row_head cells some in
    ap (λ o. or_else (ended_kind o) (or_else (failed_kind (err_at false p)) (cells_kind (text_row_at (length cells) p)))) (begins_no_end p w)
    ∙ ap (λ o. or_else (failed_kind o) (cells_kind (text_row_at (length cells) p))) (begins_no_err p w.head w.rest w.spelled w.no_err)
    ∙ ap cells_kind (row_back cells some fit)

short_end : (status : StatusFlags) → length (server_bytes (packets.End (ok_of status))) < FULL_LENGTH
unfolding le_bytes len_bytes
short_end status = lit< tt

pub end_is : (laws : PacketLaws) (format : RowFormat) (n : ℕ) (columns : List Column) (status : StatusFlags) → status.0 < 2 ^ 16 → row_kind format true n columns (server_bytes (packets.End (ok_of status))) ≡ kinds.End status
end_is laws format n columns status small =
    let p = server_bytes (packets.End (ok_of status)) in
    ap (λ o. or_else (ended_kind o) (or_else (failed_kind (err_at false p)) (cells_kind (cells_at format n columns p)))) (laws.end_ok (ok_of status) (record { fields = typed_ok status small; short = short_end status }))
