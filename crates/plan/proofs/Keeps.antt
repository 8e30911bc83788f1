-- What a list of edits keeps (`specs/Book.antt`): the number of heads, the box, the room for ten heads, and the limits.
use Prim.Native.Nat.{◌<◌}
use mathlib.Core.Path.{◌≡◌, refl, sym, ◌∙◌, subst}
use mathlib.Core.List.{[], ◌∷◌}
use native.Mathlib.Decide.{ℕ_discrete}
use native.Mathlib.Omega.{arith}
use Rattle.std.specs.Prelude.{Ok, Err}
use lib.ListN.{length, get_or, set, length-set}
use Rattle.lists.specs.Run.{after}
use lib.Seq.{get_or-set_same, get_or-set_other}
use Rattle.plan.specs.declared.Edit.{Edit}
use Rattle.plan.specs.declared.Lent.{Lent}
use Rattle.plan.specs.declared.Plan.{Plan}
use Rattle.plan.specs.Table.{Answered}
use Rattle.plan.specs.Checks.{edit_answer}
use Rattle.plan.specs.Limits.{HeadWithin, no_head, Acceptable}
use Rattle.plan.specs.Book.{head_of, applied, leaves, book_step, Keeps, AppliedHeads, BookKeeps, AppliedAcceptable}
use Rattle.plan.specs.Book.{BookAcceptable}
use Rattle.plan.proofs.Exactly.{edit_taken}

entered_keeps : (p : Plan) (e : Edit) (a : Answered) → Keeps p (leaves a p (applied p e))
entered_keeps p e (Ok done) = record { n = refl; ground = refl; room = length-set p.heads e.head (head_of e) }
entered_keeps p e (Err r) = record { n = refl; ground = refl; room = refl }

pub applied_heads : AppliedHeads
applied_heads p e = refl

pub book_keeps : BookKeeps
unfolding after
book_keeps p [] = record { n = refl; ground = refl; room = refl }
book_keeps p (e ∷ es) =
    let one = entered_keeps p e.edit (edit_answer p e.edit e.lent) in
    let rest = book_keeps (book_step p e).left es in
    record { n = rest.n ∙ one.n; ground = rest.ground ∙ one.ground; room = rest.room ∙ one.room }

pub applied_acceptable : AppliedAcceptable
applied_acceptable p e long ok edit =
    record {
      count = ok.count;
      x = ok.x;
      y = ok.y;
      width = ok.width;
      height = ok.height;
      heads = λ i lt.
          elim (ℕ_discrete i e.head) as (λ d. HeadWithin (get_or (set p.heads e.head (head_of e)) i no_head)) [
            | yes same ↦
                let room : e.head < length p.heads = omega (arith, ok.count, edit.head) in
                let here : get_or (set p.heads e.head (head_of e)) i no_head ≡ head_of e =
                rw same (get_or-set_same p.heads e.head (head_of e) no_head room) in
                subst HeadWithin (sym here) (edit.x, edit.y, edit.radius)
            | no other ↦
                subst HeadWithin (sym (get_or-set_other p.heads e.head i (head_of e) no_head other)) (ok.heads i lt)
          ];
    }

entered_acceptable : (p : Plan) (e : Edit) (lent : Lent) (a : Answered) → edit_answer p e lent ≡ a → length p.heads ≡ 10
    → Acceptable p → Acceptable (leaves a p (applied p e))
entered_acceptable p e lent (Ok done) taken long ok =
    applied_acceptable p e long ok ((edit_taken p e lent long).0 taken).1
entered_acceptable p e lent (Err r) refused long ok = ok

pub book_acceptable : BookAcceptable
unfolding after
book_acceptable p [] long ok = ok
book_acceptable p (e ∷ es) long ok =
    let answer = edit_answer p e.edit e.lent in
    book_acceptable (book_step p e).left es
    ((entered_keeps p e.edit answer).room ∙ long)
    (entered_acceptable p e.edit e.lent answer refl long ok)
