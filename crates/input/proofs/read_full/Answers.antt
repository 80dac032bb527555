-- `input::read_full` meets its contract. Assumes nothing.
use Rattle.std.proofs.Common.{◌≡◌, ℕ, ◌+◌, ◌≤◌, List, ◌++◌, rules, length, take, sym, ap, ◌∙◌, subst, length-take-le}
use Rattle.std.proofs.Math.Seq.{take-append-add}
use Rattle.std.proofs.lemmas.List.{take-append-le}
use Rattle.std.specs.Io.KnownBytes.{Consumes}
use Rattle.std.proofs.KnownBytes.{Consumes-trans}
use Rattle.input.proofs.read_full.Goals as goal

-- k bytes put behind the first n
take-behind : (n k : ℕ) (front bytes after : List ℕ) → length front ≡ n → k ≤ length bytes → take (n + k) (front ++ (bytes ++ after)) ≡ front ++ take k bytes
take-behind n k front bytes after e fits =
    ap (λ m. take (m + k) (front ++ (bytes ++ after))) (sym e) ∙ take-append-add front (bytes ++ after) k ∙ ap (λ l. front ++ l) (take-append-le k bytes after fits)

pub loop-n-preserved : goal.loop-n-preserved
loop-n-preserved g c =
    let l = c.loop-n in
    let joined = take-behind l.n c.in_ok-k.k (take l.n l.buffer) c.read.new.buf _ (length-take-le l.n l.buffer l.invariant.1) c.in_ok-k.ensures.bound.0 in
    (search rules, search rules, subst (Consumes _ _) (sym joined) (Consumes-trans _ _ _ _ _ l.invariant.2 c.in_ok-k.ensures.bytes.0))
