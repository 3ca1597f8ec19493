-- When statements are the same.
use Rattle.std.proofs.Common.{◌≡◌, ℕ, List, ◌&&◌, rules, refl, ap, ◌∙◌, nat_eq}
use Rattle.std.specs.Bool.{Decides}
use Rattle.std.specs.Cmp.Lexicographic.{pointwise, bytes_decides}
use Rattle.std.proofs.lemmas.Bool.Decides.{Decides-and}
use Rattle.std.proofs.lemmas.Slice.Eq.{slice_eq-Decides}
use Rattle.my_reply.specs.declared.column.Column.{Column}
use Rattle.my_reply.specs.contracts.column.ColumnPartialEq.TheImpl as column_eq
use Rattle.my_statements.specs.declared.statement.StmtInner.{StmtInner}
use Rattle.my_statements.specs.contracts.statement.StmtInnerPartialEq.TheImpl as inner_eq
use Rattle.my_statements.specs.Prepared.{StatementView}

column_same : (x y : Column) → Decides (column_eq.ghosts.eq x y) (x ≡ y)
column_same x y = search rules

columns_same : (xs ys : List Column) → Decides (pointwise column_eq.ghosts.eq xs ys) (xs ≡ ys)
columns_same xs ys = slice_eq-Decides column_same xs ys (pointwise column_eq.ghosts.eq xs ys) refl

inner_same : (x y : StmtInner) → Decides (inner_eq.ghosts.eq x y) (x ≡ y)
inner_same x y = search (rules, columns_same x.params y.params)

names_same : (xs ys : List (List ℕ)) → Decides (pointwise (pointwise nat_eq) xs ys) (xs ≡ ys)
names_same xs ys = slice_eq-Decides bytes_decides xs ys (pointwise (pointwise nat_eq) xs ys) refl

same_parts : (x y : StatementView) → x.inner ≡ y.inner → x.names ≡ y.names → x ≡ y
same_parts x y e f =
    ap (λ (inner : StmtInner). let s : StatementView = record { inner = inner; names = x.names } in s) e
    ∙ ap (λ (names : List (List ℕ)). let s : StatementView = record { inner = y.inner; names = names } in s) f

pub statement_same : (x y : StatementView) → Decides (inner_eq.ghosts.eq x.inner y.inner && pointwise (pointwise nat_eq) x.names y.names) (x ≡ y)
statement_same x y =
    let both = Decides-and (inner_eq.ghosts.eq x.inner y.inner) (pointwise (pointwise nat_eq) x.names y.names) (inner_same x.inner y.inner) (names_same x.names y.names) in (
      λ h. let w = both.0 h in same_parts x y w.0 w.1,
      λ h. both.1 (ap (λ (z : StatementView). z.inner) h, ap (λ (z : StatementView). z.names) h),
    )
