-- A script at its end.
use Rattle.std.proofs.Common.{◌≡◌, ℕ, List, [], length, sym, ◌∙◌, ap, None, Ok}
use Rattle.rv_text.specs.Lines.{text_lines}
use Rattle.rv_text.proofs.LineCuts.{no_lines}
use Rattle.run_scripts.specs.Scripts.{ScriptLines, told_from, next_of, after_next}

ended : (above : ℕ) (text : List ℕ) (told : ScriptLines) → length text ≡ 0 → told_from above (text_lines text) ≡ told
    → told ≡ record { moves = []; refused = None }
ended above text told none same = sym same ∙ ap (told_from above) (no_lines text none)

pub next-ended : (above : ℕ) (text : List ℕ) (told : ScriptLines) → length text ≡ 0 → told_from above (text_lines text) ≡ told
    → Ok None ≡ next_of told
next-ended above text told none same = sym (ap next_of (ended above text told none same))

pub left-ended : (above : ℕ) (text : List ℕ) (told : ScriptLines) → length text ≡ 0 → told_from above (text_lines text) ≡ told
    → told_from above (text_lines text) ≡ after_next told
left-ended above text told none same =
    let end = ended above text told none same in
    same ∙ end ∙ sym (ap after_next end)
