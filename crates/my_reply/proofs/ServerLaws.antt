-- What a server wrote is read back.
use Rattle.std.proofs.Common.{◌≡◌, ℕ, ◌+◌, ◌*◌, ◌/◌, ◌%◌, ◌^◌, ◌<◌, ◌≤◌, ◌&&◌, inr, Bool, true, false, List, [], ◌∷◌, ◌++◌, length, take, drop, codes, replicate, eqb, ltb, leb, Some, refl, sym, ap, ◌∙◌, arith, lit<, append_assoc, length-append, length-take-le, length-drop}
use Rattle.std.proofs.lemmas.List.{append-nil, take_at, take-append-drop}
use Rattle.std.proofs.lemmas.Str.{utf8_lossy-IsUtf8}
use Rattle.std.proofs.lemmas.Bool.Decides.{nat_tests}
use Rattle.std.specs.List.{before_first}
use Rattle.my_frame.specs.declared.limits.TheConstants.{FULL_LENGTH}
use Rattle.my_handshake.specs.declared.greeting.Greeting.{Greeting}
use Rattle.my_reply.specs.declared.ok.OkPacket.{OkPacket}
use Rattle.my_reply.specs.declared.err.ErrPacket.{ErrPacket}
use Rattle.my_reply.specs.declared.column.Column.{Column}
use Rattle.my_frame.specs.Numbers.{head_at, text_at, len_at, ◌>>=◌}
use Rattle.my_frame.specs.Writing.{le_bytes, len_bytes, text_bytes, text0_bytes}
use Rattle.my_reply.specs.OkPacket.{info_at, info_of, fields_at, ok_at, end_ok_at}
use Rattle.my_reply.specs.ErrPacket.{err_at}
use Rattle.my_reply.specs.ColumnCount.{column_count_at}
use Rattle.my_reply.specs.Column.{names_at, form_at, column_at}
use Rattle.my_handshake.specs.Greeting.{first_at, settings_at, second_at, greeting_at}
use Rattle.my_reply.specs.Server.{fitted, settings_bytes, greeting_bytes, info_bytes, ok_bytes, err_bytes, form_bytes, column_bytes}
use Rattle.my_reply.specs.Sent.{IsSentGreeting, IsSentOk, IsSentErr, IsSentColumn}
use Rattle.my_frame.proofs.NumberLaws.{bytes_again, before_found, before_again}
use Rattle.my_frame.proofs.WritingLaws.{length-le_bytes, number_read_back, len_read_back, text_read_back, text0_read_back}

info_read_back : (info : List ℕ) → length info < 2 ^ 64 → info_of (info_bytes info) ≡ info
info_read_back [] h = refl
info_read_back (b ∷ info) h =
    let all = b ∷ info in
    let e : text_at (text_bytes all) ≡ Some (all, []) = ap text_at (sym (append-nil (text_bytes all))) ∙ text_read_back all [] h in
    let z : eqb (length all) 0 ≡ false = grind (arith, nat_tests) in
    rw z (ap (λ o. info_at o (text_bytes all)) e)

fields_read_back : (ok : OkPacket) → IsSentOk ok → fields_at (len_bytes ok.affected ++ (len_bytes ok.insert ++ (le_bytes 2 ok.status.0 ++ (le_bytes 2 ok.warnings ++ info_bytes ok.info)))) ≡ Some ok
unfolding fields_at
fields_read_back ok w =
    rw (len_read_back ok.affected (len_bytes ok.insert ++ (le_bytes 2 ok.status.0 ++ (le_bytes 2 ok.warnings ++ info_bytes ok.info))) w.affected, len_read_back ok.insert (le_bytes 2 ok.status.0 ++ (le_bytes 2 ok.warnings ++ info_bytes ok.info)) w.insert, number_read_back 2 ok.status.0 (le_bytes 2 ok.warnings ++ info_bytes ok.info) w.status, number_read_back 2 ok.warnings (info_bytes ok.info) w.warnings, info_read_back ok.info w.info) refl

ok_spelled : (head : ℕ) (ok : OkPacket) → ok_bytes head ok ≡ le_bytes 1 head ++ (len_bytes ok.affected ++ (len_bytes ok.insert ++ (le_bytes 2 ok.status.0 ++ (le_bytes 2 ok.warnings ++ info_bytes ok.info))))
ok_spelled head ok = simp append_assoc

pub ok_read_back : (ok : OkPacket) → IsSentOk ok → ok_at (ok_bytes 0x00 ok) ≡ Some ok
unfolding le_bytes
ok_read_back ok w = ap ok_at (ok_spelled 0x00 ok) ∙ fields_read_back ok w

pub end_ok_read_back : (ok : OkPacket) → IsSentOk ok → length (ok_bytes 0xFE ok) < FULL_LENGTH → end_ok_at (ok_bytes 0xFE ok) ≡ Some ok
unfolding le_bytes
end_ok_read_back ok w short =
    let b : ltb (length (ok_bytes 0xFE ok)) FULL_LENGTH ≡ true = grind (arith, nat_tests) in
    rw b (ap (λ p. head_at 0xFE p >>= λ rest. fields_at rest) (ok_spelled 0xFE ok) ∙ fields_read_back ok w)

pub err_read_back : (err : ErrPacket) → IsSentErr err → err_at false (err_bytes err) ≡ Some err
unfolding le_bytes
err_read_back err w =
    let spelled : err_bytes err ≡ 0xFF ∷ (le_bytes 2 err.code ++ (35 ∷ (err.state ++ err.message))) = simp append_assoc in
    let b = bytes_again 5 (err.state ++ err.message) err.state err.message (record { count_is = w.state; spelled = refl }) in
    let t = utf8_lossy-IsUtf8 err.message w.message in
    ap (λ p. err_at false p) spelled ∙ rw (number_read_back 2 err.code (35 ∷ (err.state ++ err.message)) w.code, b, t) refl

pub count_read_back : (cached : Bool) (n : ℕ) → 0 < n → n ≤ 65535 → column_count_at cached (len_bytes n) ≡ Some (record { count = n; skipped = false })
count_read_back cached n some few =
    let e : len_at (len_bytes n) ≡ Some (n, []) = ap len_at (sym (append-nil (len_bytes n))) ∙ len_read_back n [] (omega arith) in
    let b : (ltb 0 n && leb n 65535) ≡ true = grind (arith, nat_tests) in
    rw (e, b) refl

names_read_back : (c : Column) (rest : List ℕ) → IsSentColumn c → names_at (text_bytes (codes "def") ++ (text_bytes c.schema ++ (text_bytes c.table ++ (text_bytes c.org_table ++ (text_bytes c.name ++ (text_bytes c.org_name ++ rest)))))) ≡ Some (record { schema = c.schema; table = c.table; org_table = c.org_table; name = c.name; org_name = c.org_name }, rest)
unfolding names_at
names_read_back c rest w =
    rw (text_read_back (codes "def") (text_bytes c.schema ++ (text_bytes c.table ++ (text_bytes c.org_table ++ (text_bytes c.name ++ (text_bytes c.org_name ++ rest))))) (lit< tt), text_read_back c.schema (text_bytes c.table ++ (text_bytes c.org_table ++ (text_bytes c.name ++ (text_bytes c.org_name ++ rest)))) w.schema, text_read_back c.table (text_bytes c.org_table ++ (text_bytes c.name ++ (text_bytes c.org_name ++ rest))) w.table, text_read_back c.org_table (text_bytes c.name ++ (text_bytes c.org_name ++ rest)) w.org_table, text_read_back c.name (text_bytes c.org_name ++ rest) w.name, text_read_back c.org_name rest w.org_name) refl

form_read_back : (c : Column) → IsSentColumn c → form_at (form_bytes c) ≡ Some (record { charset = c.charset; length = c.length; column_type = c.column_type; flags = c.flags; decimals = c.decimals })
unfolding form_at
form_read_back c w =
    let spelled : form_bytes c ≡ len_bytes 0x0C ++ (le_bytes 2 c.charset ++ (le_bytes 4 c.length ++ (le_bytes 1 c.column_type ++ (le_bytes 2 c.flags ++ (le_bytes 1 c.decimals ++ le_bytes 2 0))))) = simp append_assoc in
    ap form_at spelled ∙ rw (len_read_back 0x0C (le_bytes 2 c.charset ++ (le_bytes 4 c.length ++ (le_bytes 1 c.column_type ++ (le_bytes 2 c.flags ++ (le_bytes 1 c.decimals ++ le_bytes 2 0))))) (lit< tt), number_read_back 2 c.charset (le_bytes 4 c.length ++ (le_bytes 1 c.column_type ++ (le_bytes 2 c.flags ++ (le_bytes 1 c.decimals ++ le_bytes 2 0)))) w.charset, number_read_back 4 c.length (le_bytes 1 c.column_type ++ (le_bytes 2 c.flags ++ (le_bytes 1 c.decimals ++ le_bytes 2 0))) w.max_length, number_read_back 1 c.column_type (le_bytes 2 c.flags ++ (le_bytes 1 c.decimals ++ le_bytes 2 0)) w.column_type, number_read_back 2 c.flags (le_bytes 1 c.decimals ++ le_bytes 2 0) w.flags, number_read_back 1 c.decimals (le_bytes 2 0) w.decimals, length-le_bytes 2 0) refl

pub column_read_back : (c : Column) → IsSentColumn c → column_at (column_bytes c) ≡ Some c
column_read_back c w =
    let form = form_bytes c in
    let spelled : column_bytes c ≡ text_bytes (codes "def") ++ (text_bytes c.schema ++ (text_bytes c.table ++ (text_bytes c.org_table ++ (text_bytes c.name ++ (text_bytes c.org_name ++ form))))) = simp append_assoc in
    ap column_at spelled ∙ rw (names_read_back c form w, form_read_back c w) refl

first_read_back : (version : List ℕ) (id : ℕ) (part rest : List ℕ) → id < 2 ^ 32 → length part ≡ 8 → first_at (10 ∷ (text0_bytes version ++ (le_bytes 4 id ++ (part ++ 0 ∷ rest)))) ≡ Some ((before_first (λ b. eqb b 0) version, id, part), rest)
first_read_back version id part rest small eight =
    rw (text0_read_back version (le_bytes 4 id ++ (part ++ 0 ∷ rest)), number_read_back 4 id (part ++ 0 ∷ rest) small, bytes_again 8 (part ++ 0 ∷ rest) part (0 ∷ rest) (record { count_is = eight; spelled = refl })) refl

settings_read_back : (g : Greeting) (rest : List ℕ) → IsSentGreeting g → settings_at (settings_bytes g ++ rest) ≡ Some (record { capabilities = g.capabilities; status = g.status; nonce_length = 21; extended = g.extended }, rest)
unfolding settings_at
settings_read_back g rest w =
    let low = g.capabilities.0 % 65536 in
    let high = g.capabilities.0 / 65536 in
    let caps = w.capabilities in
    let both : low + 65536 * high ≡ g.capabilities.0 = omega arith in
    let r6 = le_bytes 4 g.extended.0 ++ rest in
    let r5 = replicate 6 0 ++ r6 in
    let r4 = le_bytes 1 21 ++ r5 in
    let r3 = le_bytes 2 high ++ r4 in
    let r2 = le_bytes 2 g.status.0 ++ r3 in
    let r1 = le_bytes 1 45 ++ r2 in
    let spelled : settings_bytes g ++ rest ≡ le_bytes 2 low ++ r1 = simp append_assoc in
    ap settings_at spelled ∙ rw (number_read_back 2 low r1 (omega arith), number_read_back 1 45 r2 (lit< tt), number_read_back 2 g.status.0 r3 w.status, number_read_back 2 high r4 (omega arith), number_read_back 1 21 r5 (lit< tt), bytes_again 6 r5 (replicate 6 0) r6 (record { count_is = refl; spelled = refl }), number_read_back 4 g.extended.0 rest w.extended, both) refl

second_read_back : (part plugin : List ℕ) → length part ≡ 12 → second_at 21 (part ++ 0 ∷ text0_bytes plugin) ≡ Some (part, before_first (λ b. eqb b 0) plugin)
unfolding text0_bytes
second_read_back part plugin twelve =
    let ended = text0_bytes plugin in
    let cut = before_first (λ b. eqb b 0) plugin in
    let b = bytes_again 13 (part ++ 0 ∷ ended) (part ++ 0 ∷ []) ended (record { count_is = length-append part (0 ∷ []) ∙ ap (λ n. n + 1) twelve; spelled = sym (append_assoc part (0 ∷ []) ended) }) in
    let t : take 12 (part ++ 0 ∷ []) ≡ part = take_at part (0 ∷ []) 12 twelve in
    let p : before_first (λ b. eqb b 0) ended ≡ cut = before_again ended cut (record { no_zero = (before_found plugin cut refl).no_zero; ends = inr ([], refl) }) in
    rw (b, t, p) refl

nine_joined : (a b c d e f g h i : List ℕ) → a ++ b ++ c ++ d ++ e ++ f ++ g ++ h ++ i ≡ a ++ (b ++ (c ++ (d ++ (e ++ (f ++ (g ++ (h ++ i)))))))
nine_joined a b c d e f g h i = simp append_assoc

pub greeting_read_back : (g : Greeting) → IsSentGreeting g → greeting_at (greeting_bytes g) ≡ Some g
unfolding le_bytes fitted
greeting_read_back g w =
    let nonce = w.nonce in
    let whole : take 20 (g.nonce ++ replicate 20 0) ≡ g.nonce = take_at g.nonce (replicate 20 0) 20 nonce in
    let first = take 8 g.nonce in
    let second = drop 8 g.nonce in
    let rest = second ++ 0 ∷ text0_bytes g.plugin in
    let after = settings_bytes g ++ rest in
    let spelled : greeting_bytes g ≡ 10 ∷ (text0_bytes g.version ++ (le_bytes 4 g.id ++ (first ++ 0 ∷ after))) =
    nine_joined (le_bytes 1 10) (text0_bytes g.version) (le_bytes 4 g.id) (take 8 (fitted g.nonce)) (le_bytes 1 0) (settings_bytes g) (drop 8 (fitted g.nonce)) (le_bytes 1 0) (text0_bytes g.plugin)
    ∙ ap (λ n. 10 ∷ (text0_bytes g.version ++ (le_bytes 4 g.id ++ (take 8 n ++ 0 ∷ (settings_bytes g ++ (drop 8 n ++ 0 ∷ text0_bytes g.plugin)))))) whole in
    ap greeting_at spelled ∙ rw (first_read_back g.version g.id first after w.id (length-take-le 8 g.nonce (omega arith)), settings_read_back g rest w, second_read_back second g.plugin (omega (arith, length-drop 8 g.nonce)), w.needed, w.version, w.plugin, take-append-drop 8 g.nonce) refl
