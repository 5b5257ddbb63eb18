-- The answer to a reading, by the line that the bytes begin with.
use Rattle.std.proofs.Common.{◌≡◌, ℕ, ◌+◌, ◌-◌, ◌<◌, List, length, take, drop, ℤ, Some, Ok, Err, subst}
use Rattle.text.specs.Pieces.{upto, pieces}
use Rattle.certificate.specs.declared.fault.SourceFault.TheVariants.{Form, TooMany}
use Rattle.certificate.specs.declared.found.Shape.{Shape}
use Rattle.certificate.specs.declared.line.Unread.TheVariants.{Form as Unformed, TooMany as Unfitting}
use Rattle.certificate.specs.Lines.{line_step, lines_of}
use Rattle.certificate.specs.LineAnswer.{line_answer, LineLeaves}
use Rattle.certificate.specs.Reading.{Memory, Leaves, Reads}
use Rattle.certificate.specs.Stream.{broken}
use Rattle.certificate.proofs.Answering.{reads_ended, reads_step, reads_over}
use Rattle.certificate.proofs.LineAnswers.{line_ok, line_over, line_form}
use Rattle.certificate.proofs.LineEnds.{lines_first, lines_bad}

pub line_read : (k : Memory) (n m : ℕ) (bs : List ℕ) (g : Shape) (ls : List ℤ) (hs : List ℕ) → n < 4294967294 → m ≡ upto 10 bs → m < length bs → Ok g ≡ line_answer k (line_step (take m bs)) → LineLeaves k (line_step (take m bs)) ls hs → Leaves k (lines_of n (pieces 10 bs)).steps ls hs × Reads (lines_of n (pieces 10 bs)) (Ok (Some (record { place = n + 1; shape = g }))) (lines_of (n + 1) (pieces 10 (take (length bs - (m + 1)) (drop (m + 1) bs)))) ls hs
line_read k n m bs g ls hs p e l a h =
    let s = line_ok k (line_step (take m bs)) g a in
    reads_step k (lines_of n (pieces 10 bs)) (lines_of (n + 1) (pieces 10 (take (length bs - (m + 1)) (drop (m + 1) bs)))) (n + 1) s.0 g ls hs (lines_first n m bs s.0 p e l s.1.0) s.1.1 (subst (λ o. LineLeaves k o ls hs) s.1.0 h)

pub line_passed : (k : Memory) (n m : ℕ) (bs : List ℕ) (ls : List ℤ) (hs : List ℕ) → n < 4294967294 → m ≡ upto 10 bs → m < length bs → Err Unfitting ≡ line_answer k (line_step (take m bs)) → LineLeaves k (line_step (take m bs)) ls hs → Leaves k (lines_of n (pieces 10 bs)).steps ls hs × Reads (lines_of n (pieces 10 bs)) (Err (TooMany (n + 1))) (lines_of (n + 1) (pieces 10 (take (length bs - (m + 1)) (drop (m + 1) bs)))) ls hs
line_passed k n m bs ls hs p e l a h =
    let s = line_over k (line_step (take m bs)) a in
    reads_over k (lines_of n (pieces 10 bs)) (lines_of (n + 1) (pieces 10 (take (length bs - (m + 1)) (drop (m + 1) bs)))) (n + 1) s.0 ls hs (lines_first n m bs s.0 p e l s.1.0) s.1.1 (subst (λ o. LineLeaves k o ls hs) s.1.0 h)

pub line_refused_at : (k : Memory) (n m : ℕ) (bs : List ℕ) (ls : List ℤ) (hs : List ℕ) → n < 4294967294 → m ≡ upto 10 bs → m < length bs → Err Unformed ≡ line_answer k (line_step (take m bs)) → LineLeaves k (line_step (take m bs)) ls hs → Leaves k (lines_of n (pieces 10 bs)).steps ls hs × Reads (lines_of n (pieces 10 bs)) (Err (Form (n + 1))) (lines_of n (pieces 10 bs)) ls hs
line_refused_at k n m bs ls hs p e l a h =
    let s = line_form k (line_step (take m bs)) a in
    reads_ended k (lines_of n (pieces 10 bs)) (broken (n + 1)) ls hs (lines_bad n m bs p e l s) (subst (λ o. LineLeaves k o ls hs) s h)
