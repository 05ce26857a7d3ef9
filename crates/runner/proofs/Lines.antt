-- A line in a buffer of newlines, and its newline after it. Assumes nothing.
use Rattle.std.proofs.Common.{◌≡◌, ℕ, suc, ◌+◌, ◌-◌, ◌≤◌, List, [], ◌∷◌, ◌++◌, length, length-append, take, drop, replicate, Ok, Result, ap, ◌∙◌, arith}
use Rattle.std.proofs.Math.Seq.{take-append-add}
use Rattle.std.proofs.lemmas.List.{drop-replicate, take_all}
use Rattle.line.specs.declared.fault.LineFault.{LineFault}
use Rattle.text.specs.Content.{fitting, line}

-- the line and its newline, cut out of the buffer
cut_line : (l : List ℕ) (n : ℕ) → n ≡ length l → length l ≤ 80 → take (n + 1) (l ++ drop (length l) (replicate 81 10)) ≡ line l
cut_line l n long fits =
    let left : 81 - length l ≡ suc (80 - length l) = omega arith in
    ap (λ (k : ℕ). take (k + 1) (l ++ drop (length l) (replicate 81 10))) long
    ∙ take-append-add l (drop (length l) (replicate 81 10)) 1
    ∙ ap (λ r. l ++ take 1 r) (drop-replicate (length l) 81 10 ∙ ap (λ (m : ℕ). replicate m 10) left)

pub put_so : (out out' cut buffer l : List ℕ) (n : ℕ) → out' ≡ out ++ cut → cut ≡ take (n + 1) buffer → buffer ≡ l ++ drop (length l) (replicate 81 10) → ◌≡◌ {A = Result ℕ LineFault} (Ok n) (Ok (length l)) → length l ≤ 80 → out' ≡ out ++ line l
put_so out out' cut buffer l n gains cuts wrote long fits =
    let same : n ≡ length l = cc in
    gains ∙ ap (λ x. out ++ x) (cuts ∙ ap (take (n + 1)) wrote ∙ cut_line l n same fits)

-- a short text with its newline pushed
pub text_put : (out out' bytes text before l : List ℕ) → out' ≡ out ++ bytes → bytes ≡ text → text ≡ fitting (before ++ 10 ∷ []) → before ≡ l → length l ≤ 60 → out' ≡ out ++ line l
text_put out out' bytes text before l gains same pushed is short =
    gains ∙ ap (λ x. out ++ x) (same ∙ pushed ∙ ap (λ b. fitting (b ++ 10 ∷ [])) is ∙ take_all 80 (l ++ 10 ∷ []) (omega (arith, length-append l (10 ∷ []))))
