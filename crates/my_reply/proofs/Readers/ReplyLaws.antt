-- The replies to a statement to prepare, and to a query that reads a file, as relations and as what is read.
use Rattle.std.proofs.Common.{◌≡◌, ℕ, List, Some, refl, subst}
use Rattle.my_reply.specs.declared.replies.InfileRequest.{InfileRequest}
use Rattle.my_reply.specs.declared.replies.PrepareOk.{PrepareOk}
use Rattle.my_frame.specs.Numbers.{bytes_at, head_at, number_at}
use Rattle.my_reply.specs.Replies.{IsInfile, IsPrepareOk, infile_at, prepare_ok_at}
use Rattle.my_frame.proofs.NumberLaws.{bind_then, head_found, head_again, bytes_found, bytes_again, number_found, number_again}

pub prepare_ok_found : (payload : List ℕ) (prepared : PrepareOk) → prepare_ok_at payload ≡ Some prepared → IsPrepareOk payload prepared
unfolding prepare_ok_at
prepare_ok_found payload prepared e =
    bind_then (head_at 0x00 payload) _ prepared e (λ a ea na.
    bind_then (number_at 4 a) _ prepared na (λ b eb nb.
    bind_then (number_at 2 b.1) _ prepared nb (λ c ec nc.
    bind_then (number_at 2 c.1) _ prepared nc (λ d ed nd.
    bind_then (bytes_at 1 d.1) _ prepared nd (λ f ef nf.
    bind_then (number_at 2 f.1) _ prepared nf (λ g eg ng.
    let fields : PrepareOk = record { id = b.0; columns = c.0; params = d.0; warnings = g.0 } in
    let same : fields ≡ prepared = cc in
    subst (λ o. IsPrepareOk payload o) {x = fields} same (record {
      filler = f.0;
      after_head = a;
      after_id = b.1;
      after_columns = c.1;
      after_params = d.1;
      after_filler = f.1;
      rest = g.1;
      spelled = head_found 0x00 payload a ea;
      id = number_found 4 a b.0 b.1 eb;
      columns = number_found 2 b.1 c.0 c.1 ec;
      params = number_found 2 c.1 d.0 d.1 ed;
      filler_is = bytes_found 1 d.1 f.0 f.1 ef;
      warnings = number_found 2 f.1 g.0 g.1 eg;
    })))))))

pub prepare_ok_again : (payload : List ℕ) (prepared : PrepareOk) → IsPrepareOk payload prepared → prepare_ok_at payload ≡ Some prepared
unfolding prepare_ok_at
prepare_ok_again payload prepared w =
    rw (head_again 0x00 payload w.after_head w.spelled, number_again 4 w.after_head prepared.id w.after_id w.id, number_again 2 w.after_id prepared.columns w.after_columns w.columns, number_again 2 w.after_columns prepared.params w.after_params w.params, bytes_again 1 w.after_params w.filler w.after_filler w.filler_is, number_again 2 w.after_filler prepared.warnings w.rest w.warnings) refl

pub infile_found : (payload : List ℕ) (infile : InfileRequest) → infile_at payload ≡ Some infile → IsInfile payload infile
infile_found payload infile e =
    bind_then (head_at 0xFB payload) _ infile e (λ a ea na.
    let fields : InfileRequest = record { name = a } in
    let same : fields ≡ infile = cc in
    subst (λ o. IsInfile payload o) {x = fields} same (head_found 0xFB payload a ea))

pub infile_again : (payload : List ℕ) (infile : InfileRequest) → IsInfile payload infile → infile_at payload ≡ Some infile
infile_again payload infile w = rw (head_again 0xFB payload infile.name w) refl
