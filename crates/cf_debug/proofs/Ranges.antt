-- The command of a line shows at most 16 bytes of memory.
use Rattle.std.proofs.Common.{◌≡◌, ℕ, ◌≤◌, List, Option, Some, None, Bool, true, false, Ok, Err, refl, sym, subst, ◌∙◌, length, drop, arith}
use Rattle.std.specs.Prelude.{◌&&◌, ◌==◌, Result, codes, is_some, nat_le, nat_lt, if◌then◌else◌}
use Rattle.std.specs.Str.{bytes_eq}
use Rattle.std.proofs.lemmas.Bool.Decides.{nat_tests}
use Rattle.rv_text.specs.Pieces.{name_part, operand_part}
use Rattle.run_scripts.specs.declared.refusal.ScriptKind.{ScriptKind}
use Rattle.run_scripts.specs.Kinds.{place_named}
use Rattle.run_scripts.specs.MoveLines.{move_in}
use Rattle.run_scripts.specs.Words.{words_of, first_word, first_number}
use Rattle.cf_bind.specs.declared.moves.Move.{Move as AnyMove}
use Rattle.cf_debug.specs.declared.command.DebugCommand.{DebugCommand}
use Rattle.cf_debug.specs.declared.command.DebugCommand.TheVariants.{Nothing, Auto, Show, Break, Back, End}
use Rattle.cf_debug.specs.declared.command.View.TheVariants.{Picture, Registers, Memory, Bound, Allowed, Code, Help}
use Rattle.cf_debug.specs.declared.command.Refusal.{Refusal}
use Rattle.cf_debug.specs.declared.command.Refusal.TheVariants.{TooLong, UnknownCommand, BadNumber, ExtraWords}
use Rattle.texts.specs.Answers.{and_then}
use Rattle.cf_debug.specs.Commands.{AsksFew, address_told, command_alone, auto_told, back_told, break_told, code_told, command_in, command_named, lone_command, lone_told, memory_told, move_told, number_told, other_told, stop_told, why_told, number_within}

-- the command, if there is one, shows few bytes
abbrev Few : Result DebugCommand Refusal → Type 0
Few (Ok command) = AsksFew command
Few (Err refusal) = Unit {0}

pick : (b : Bool) (x y : Result DebugCommand Refusal) → Few x → Few y → Few (if b then x else y)
pick true x y few other = few
pick false x y few other = other

alone_few : (words : List (List ℕ)) (command : DebugCommand) → AsksFew command → Few (command_alone words command)
unfolding command_alone
alone_few words command few = pick (length words == 0) (Ok command) (Err ExtraWords) few tt

then_few : {A : Type 0} (r : Result A Refusal) (step : A → Result DebugCommand Refusal) → ((a : A) → r ≡ Ok a → Few (step a)) → Few (and_then r step)
then_few (Ok a) step few = few a refl
then_few (Err e) step few = tt

move_few : (r : Result AnyMove ScriptKind) → Few (move_told r)
move_few (Ok mv) = tt
move_few (Err kind) = tt

why_few : (r : Result AnyMove ScriptKind) → Few (why_told r)
why_few (Ok mv) = tt
why_few (Err kind) = tt

within_most : (most : ℕ) (r : Result ℕ ScriptKind) (n : ℕ) → number_within most r ≡ Ok n → n ≤ most
within_most most (Err kind) n is = absurd (cc)
within_most most (Ok k) n is = of (nat_le 1 k && nat_le k most) refl is
  where
    same : (k n : ℕ) → ◌≡◌ {A = Result ℕ Refusal} (Ok k) (Ok n) → k ≡ n
    same k n is = cc

    of : (b : Bool) → (nat_le 1 k && nat_le k most) ≡ b → ◌≡◌ {A = Result ℕ Refusal} (if b then Ok k else Err BadNumber) (Ok n) → n ≤ most
    of true both is = subst (λ (m : ℕ). m ≤ most) (same k n is) (grind (arith, nat_tests, both))
    of false both is = absurd (cc)

memory_few : (words : List (List ℕ)) → Few (memory_told words)
unfolding memory_told number_told
memory_few words =
    then_few (address_told (first_word words)) _ (λ address told.
    then_few (number_told 16 (drop 1 words)) _ (λ len is.
    alone_few (drop 1 (drop 1 words)) (Show (Memory address len)) (within_most 16 (first_number (drop 1 words)) len is)))

auto_few : (words : List (List ℕ)) → Few (auto_told words)
unfolding auto_told
auto_few words = then_few (number_told 1000000 words) _ (λ n is. alone_few (drop 1 words) (Auto n) tt)

stop_few : (words : List (List ℕ)) → Few (stop_told words)
unfolding stop_told
stop_few words = then_few (break_told (first_word words)) _ (λ stop is. alone_few (drop 1 words) (Break stop) tt)

back_few : (words : List (List ℕ)) → Few (back_told words)
unfolding back_told
back_few words =
    pick (length words == 0) (Ok (Back 1)) _ tt (then_few (number_told 1024 words) _ (λ n is. alone_few (drop 1 words) (Back n) tt))

code_few : (words : List (List ℕ)) → Few (code_told words)
unfolding code_told
code_few words =
    then_few (address_told (first_word words)) _ (λ address is. alone_few (drop 1 words) (Show (Code address)) tt)

-- a command that may be missing, which otherwise shows few bytes
abbrev LoneFew : Option DebugCommand → Type 0
LoneFew None = Unit {0}
LoneFew (Some command) = AsksFew command

lone_pick : (b : Bool) (command : DebugCommand) (other : Option DebugCommand) → AsksFew command → LoneFew other → LoneFew (if b then Some command else other)
lone_pick true command other few rest = few
lone_pick false command other few rest = rest

lone_few : (name : List ℕ) → LoneFew (lone_command name)
unfolding lone_command
lone_few name =
    lone_pick (bytes_eq name (codes "show")) (Show Picture) _ tt
    (lone_pick (bytes_eq name (codes "regs")) (Show Registers) _ tt
    (lone_pick (bytes_eq name (codes "bound")) (Show Bound) _ tt
    (lone_pick (bytes_eq name (codes "moves")) (Show Allowed) _ tt
    (lone_pick (bytes_eq name (codes "help")) (Show Help) _ tt
    (lone_pick (bytes_eq name (codes "end")) End None tt tt)))))

lone_told_few : (told : Option DebugCommand) (words : List (List ℕ)) → LoneFew told → Few (lone_told told words)
lone_told_few None words few = tt
lone_told_few (Some command) words few = alone_few words command few

other_few : (line name after : List ℕ) → Few (other_told line name after)
unfolding other_told
other_few line name after =
    pick (is_some (place_named name)) (move_told (move_in line)) _ (move_few (move_in line))
    (lone_told_few (lone_command name) (words_of after) (lone_few name))

named_few : (line name after : List ℕ) → Few (command_named line name after)
unfolding command_named
named_few line name after =
    pick (bytes_eq name (codes "")) (Ok Nothing) _ tt
    (pick (bytes_eq name (codes "move")) (move_told (move_in after)) _ (move_few (move_in after))
    (pick (bytes_eq name (codes "auto")) (auto_told (words_of after)) _ (auto_few (words_of after))
    (pick (bytes_eq name (codes "mem")) (memory_told (words_of after)) _ (memory_few (words_of after))
    (pick (bytes_eq name (codes "break")) (stop_told (words_of after)) _ (stop_few (words_of after))
    (pick (bytes_eq name (codes "why")) (why_told (move_in after)) _ (why_few (move_in after))
    (pick (bytes_eq name (codes "back")) (back_told (words_of after)) _ (back_few (words_of after))
    (pick (bytes_eq name (codes "list")) (code_told (words_of after)) _ (code_few (words_of after))
    (other_few line name after))))))))

-- the command of a line shows few bytes
pub few-told : (line : List ℕ) (command : DebugCommand) → command_in line ≡ Ok command → AsksFew command
unfolding command_in
few-told line command is = subst Few is (pick (nat_lt 256 (length line)) (Err TooLong) (command_named line (name_part line) (operand_part line)) tt
    (named_few line (name_part line) (operand_part line)))
