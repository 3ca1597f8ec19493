-- The description of a column, as a relation and as what is read.
use Rattle.std.proofs.Common.{◌≡◌, ℕ, ◌&&◌, List, length, eqb, Some, refl, sym, ap, subst, arith}
use Rattle.std.proofs.lemmas.Bool.Decides.{nat_tests}
use Rattle.my_reply.specs.declared.column.Column.{Column}
use Rattle.my_reply.specs.declared.column.Names.{Names}
use Rattle.my_reply.specs.declared.column.Form.{Form}
use Rattle.my_frame.specs.Numbers.{IsLen, number_at, len_at, text_at}
use Rattle.my_reply.specs.Column.{IsNames, IsForm, IsColumn, column_of, names_at, form_at, column_at}
use Rattle.my_frame.proofs.NumberLaws.{bind_then, passed, same_pair, number_found, number_again, len_found, len_again, text_found, text_again}

names_found : (bytes : List ℕ) (names : Names) (rest : List ℕ) → names_at bytes ≡ Some (names, rest) → IsNames bytes names rest
unfolding names_at
names_found bytes names rest e =
    bind_then (text_at bytes) _ (names, rest) e (λ a ea na.
    bind_then (text_at a.1) _ (names, rest) na (λ b eb nb.
    bind_then (text_at b.1) _ (names, rest) nb (λ c ec nc.
    bind_then (text_at c.1) _ (names, rest) nc (λ d ed nd.
    bind_then (text_at d.1) _ (names, rest) nd (λ f ef nf.
    bind_then (text_at f.1) _ (names, rest) nf (λ g eg ng.
    let fields : Names = record { schema = b.0; table = c.0; org_table = d.0; name = f.0; org_name = g.0 } in
    let s = same_pair (fields, g.1) (names, rest) ng in
    subst (λ o. IsNames bytes o rest) {x = fields} s.0 (subst (λ r. IsNames bytes fields r) {x = g.1} s.1 (record {
      catalog = a.0;
      after_catalog = a.1;
      after_schema = b.1;
      after_table = c.1;
      after_org_table = d.1;
      after_name = f.1;
      catalog_is = text_found bytes a.0 a.1 ea;
      schema = text_found a.1 b.0 b.1 eb;
      table = text_found b.1 c.0 c.1 ec;
      org_table = text_found c.1 d.0 d.1 ed;
      name = text_found d.1 f.0 f.1 ef;
      org_name = text_found f.1 g.0 g.1 eg;
    }))))))))

names_again : (bytes : List ℕ) (names : Names) (rest : List ℕ) → IsNames bytes names rest → names_at bytes ≡ Some (names, rest)
unfolding names_at
names_again bytes names rest w =
    rw (text_again bytes w.catalog w.after_catalog w.catalog_is, text_again w.after_catalog names.schema w.after_schema w.schema, text_again w.after_schema names.table w.after_table w.table, text_again w.after_table names.org_table w.after_org_table w.org_table, text_again w.after_org_table names.name w.after_name w.name, text_again w.after_name names.org_name rest w.org_name) refl

form_found : (bytes : List ℕ) (form : Form) → form_at bytes ≡ Some form → IsForm bytes form
unfolding form_at
form_found bytes form e =
    bind_then (len_at bytes) _ form e (λ a ea na.
    bind_then (number_at 2 a.1) _ form na (λ b eb nb.
    bind_then (number_at 4 b.1) _ form nb (λ c ec nc.
    bind_then (number_at 1 c.1) _ form nc (λ d ed nd.
    bind_then (number_at 2 d.1) _ form nd (λ f ef nf.
    bind_then (number_at 1 f.1) _ form nf (λ g eg ng.
    let fields : Form = record { charset = b.0; length = c.0; column_type = d.0; flags = f.0; decimals = g.0 } in
    let p = passed (eqb a.0 0x0C && eqb (length g.1) 2) fields form ng in
    let t = p.0 in
    let twelve : a.0 ≡ 0x0C = grind (arith, nat_tests) in
    let two : length g.1 ≡ 2 = grind (arith, nat_tests) in
    subst (λ o. IsForm bytes o) {x = fields} p.1 (record {
      after_size = a.1;
      after_charset = b.1;
      after_length = c.1;
      after_type = d.1;
      after_flags = f.1;
      filler = g.1;
      size = subst (λ n. IsLen bytes n a.1) twelve (len_found bytes a.0 a.1 ea);
      charset = number_found 2 a.1 b.0 b.1 eb;
      max_length = number_found 4 b.1 c.0 c.1 ec;
      column_type = number_found 1 c.1 d.0 d.1 ed;
      flags = number_found 2 d.1 f.0 f.1 ef;
      decimals = number_found 1 f.1 g.0 g.1 eg;
      ends = two;
    })))))))

form_again : (bytes : List ℕ) (form : Form) → IsForm bytes form → form_at bytes ≡ Some form
unfolding form_at
form_again bytes form w =
    rw (len_again bytes 0x0C w.after_size w.size, number_again 2 w.after_size form.charset w.after_charset w.charset, number_again 4 w.after_charset form.length w.after_length w.max_length, number_again 1 w.after_length form.column_type w.after_type w.column_type, number_again 2 w.after_type form.flags w.after_flags w.flags, number_again 1 w.after_flags form.decimals w.filler w.decimals, w.ends) refl

pub column_found : (payload : List ℕ) (column : Column) → column_at payload ≡ Some column → IsColumn payload column
column_found payload column e =
    bind_then (names_at payload) _ column e (λ a ea na.
    bind_then (form_at a.1) _ column na (λ b eb nb.
    let same : column_of a.0 b ≡ column = cc in
    record { names = a.0; form = b; after_names = a.1; named = names_found payload a.0 a.1 ea; formed = form_found a.1 b eb; both = sym same }))

pub column_again : (payload : List ℕ) (column : Column) → IsColumn payload column → column_at payload ≡ Some column
column_again payload column w =
    rw (names_again payload w.names w.after_names w.named, form_again w.after_names w.form w.formed) (ap (λ x. Some x) (sym w.both))
