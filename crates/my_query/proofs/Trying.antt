-- The definitions of this crate accept right values, and refute wrong ones.
use Rattle.std.proofs.Common.{◌≡◌, ◌∙◌, true, false, not, ◌&&◌, is_some, ap, refl}
use Rattle.my_value.specs.RowParts.{RowParts}
use Rattle.my_conn.specs.Unread.{has_further}
use Rattle.my_query.specs.Tried.{EmptyIsTried, StreamsAreTried}
use Rattle.my_results.specs.Unread.{columns_in}

pub empty_is_tried : {L : Type 0} → EmptyIsTried L
empty_is_tried {L} = record {
  rows = λ c columns e. (ap (λ o. not (is_some o) && not (has_further c)) e, ap columns_in e);
  further = λ c e h. ap (λ o. not (is_some o) && not (has_further c)) e ∙ ap not h;
  none = λ c e h. ap (λ o. not (is_some o) && not (has_further c)) e ∙ ap not h;
}

pub streams_are_tried : {L T : Type 0} (converts : RowParts → Type 0) (becomes : RowParts → T → Type 0) → StreamsAreTried L converts becomes
streams_are_tried {L} {T} converts becomes look old new = record {
  unfit = λ row read unfit. ((read, unfit), refl);
  shut = λ row w. let no : true ≡ false = w.1 in cc;
  failed = λ error w. let no : false ≡ true = w.1 in cc;
  over = λ item ended w. let no = w.0 in cc;
  again = λ w. let no : false ≡ true = w.2 in cc;
}
