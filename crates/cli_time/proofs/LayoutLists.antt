-- Layouts that are read one after another.
use Rattle.std.proofs.Common.{◌≡◌, ◌∙◌, ℕ, suc, ◌+◌, List, [], ◌∷◌, ◌++◌, length, map, take, drop, ◌<◌, String, Option, Some, refl, sym, ap}
use Rattle.std.proofs.Common.{subst, inl, inr, arith}
use Rattle.std.specs.Prelude.{codes, slice_get, slice_index_or, string_bytes}
use Rattle.std.specs.Global.{Global}
use Rattle.cf_io.specs.Reads.{FilesSeen}
use Rattle.cf_layout.specs.Layout.{Plan}
use Rattle.texts.specs.Lines.{line}
use Rattle.cli_arguments.specs.Arguments.{NamedLayout, layout_in}
use Rattle.cli_files.specs.Layouts.{IsLayoutAt, LacksLayout}
use Rattle.cli_files.specs.declared.status.Status.{Status}
use Rattle.cli_files.specs.declared.status.Status.TheVariants as status
use Rattle.cli_time.specs.LayoutFiles.{AreLayoutsAt, LacksLayouts}
use Rattle.cli_time.proofs.Lists.{got-within, length-mapped, mapped-at, split-at, take-next, there-at}

-- one more
pub layouts-next : (arguments : List NamedLayout) (plans : List Plan) (argument : NamedLayout) (plan : Plan) (a b c : Option FilesSeen) →
    AreLayoutsAt arguments a b plans → IsLayoutAt argument b c plan → AreLayoutsAt (arguments ++ argument ∷ []) a c (plans ++ plan ∷ [])
layouts-next [] [] argument plan a b c same h =
    (c, subst (λ (o : Option FilesSeen). IsLayoutAt argument o c plan) same h, refl)
layouts-next [] (p ∷ plans) argument plan a b c same h = absurd same
layouts-next (w ∷ arguments) [] argument plan a b c all h = absurd all
layouts-next (w ∷ arguments) (p ∷ plans) argument plan a b c (m, first, more) h =
    (m, first, layouts-next arguments plans argument plan m b c more h)

-- the first of those after them that is missing
pub lacks-after : (arguments more : List NamedLayout) (plans : List Plan) (a b c : Option FilesSeen) (answer : Status) (report : List ℕ) →
    AreLayoutsAt arguments a b plans → LacksLayouts more b c answer report → LacksLayouts (arguments ++ more) a c answer report
lacks-after [] more [] a b c answer report same h =
    subst (λ (o : Option FilesSeen). LacksLayouts more o c answer report) same h
lacks-after [] more (p ∷ plans) a b c answer report same h = absurd same
lacks-after (w ∷ arguments) more [] a b c answer report all h = absurd all
lacks-after (w ∷ arguments) more (p ∷ plans) a b c answer report (m, first, rest) h =
    inr (inr (m, p, first, lacks-after arguments more plans m b c answer report rest h))

-- the next one is refused, or memory for it after it was read
pub refused-next : (arguments : List NamedLayout) (plans : List Plan) (i : ℕ) (argument : NamedLayout) (a b c : Option FilesSeen)
    (answer : Status) (report : List ℕ) →
    slice_get arguments i ≡ Some argument → AreLayoutsAt (take i arguments) a b plans → LacksLayout argument b c answer report →
    LacksLayouts arguments a c answer report
refused-next arguments plans i argument a b c answer report e all h =
    subst (λ (ws : List NamedLayout). LacksLayouts ws a c answer report) (sym (split-at arguments i argument e))
    (lacks-after (take i arguments) (argument ∷ drop (i + 1) arguments) plans a b c answer report all (inl h))

pub unheld-next : (arguments : List NamedLayout) (plans : List Plan) (i : ℕ) (argument : NamedLayout) (plan : Plan) (a b c : Option FilesSeen) (answer : Status)
    (report : List ℕ) →
    slice_get arguments i ≡ Some argument → AreLayoutsAt (take i arguments) a b plans → IsLayoutAt argument b c plan →
    answer ≡ status.NoMemory → report ≡ line (codes "no memory") → LacksLayouts arguments a c answer report
unheld-next arguments plans i argument plan a b c answer report e all h is reports =
    subst (λ (ws : List NamedLayout). LacksLayouts ws a c answer report) (sym (split-at arguments i argument e))
    (lacks-after (take i arguments) (argument ∷ drop (i + 1) arguments) plans a b c answer report all
    (inr (inl (plan, h, (is, reports)))))

-- and read
pub read-next : (arguments : List NamedLayout) (plans : List Plan) (i : ℕ) (argument : NamedLayout) (plan : Plan) (a b c : Option FilesSeen) →
    slice_get arguments i ≡ Some argument → AreLayoutsAt (take i arguments) a b plans → IsLayoutAt argument b c plan →
    AreLayoutsAt (take (i + 1) arguments) a c (plans ++ plan ∷ [])
read-next arguments plans i argument plan a b c e all h =
    subst (λ (ws : List NamedLayout). AreLayoutsAt ws a c (plans ++ plan ∷ [])) (sym (take-next arguments i argument e))
    (layouts-next (take i arguments) plans argument plan a b c all h)

-- the argument at a place names its layout
pub argument-is : (arguments : List (String Global)) (i : ℕ) (argument : String Global) (name : List ℕ) (l : NamedLayout) → i < length arguments →
    argument ≡ slice_index_or arguments i argument → name ≡ string_bytes argument → l ≡ layout_in name →
    slice_get (map layout_in (map string_bytes arguments)) i ≡ Some l
argument-is arguments i argument name l within is name_is l_is =
    rw (l_is, name_is) (mapped-at layout_in (map string_bytes arguments) i (string_bytes argument)
    (mapped-at string_bytes arguments i argument (there-at arguments i argument within is)))

-- there are as many layouts as arguments
pub layouts-length : (arguments : List NamedLayout) (plans : List Plan) (a b : Option FilesSeen) →
    AreLayoutsAt arguments a b plans → length arguments ≡ length plans
layouts-length [] [] a b h = refl
layouts-length [] (p ∷ plans) a b h = absurd h
layouts-length (w ∷ arguments) [] a b h = absurd h
layouts-length (w ∷ arguments) (p ∷ plans) a b (m, first, more) = ap suc (layouts-length arguments plans m b more)

pub arguments-length : (arguments : List (String Global)) (plans : List Plan) (a b : Option FilesSeen) →
    AreLayoutsAt (map layout_in (map string_bytes arguments)) a b plans → length arguments ≡ length plans
arguments-length arguments plans a b h =
    sym (length-mapped layout_in (map string_bytes arguments) ∙ length-mapped string_bytes arguments)
    ∙ layouts-length (map layout_in (map string_bytes arguments)) plans a b h

-- the layout at a place
pub plan-there : (plans seen : List Plan) (i : ℕ) (plan : Plan) → i < length plans → seen ≡ plans → plan ≡ slice_index_or seen i plan →
    slice_get plans i ≡ Some plan
plan-there plans seen i plan within is at_plan =
    there-at plans i plan within (subst (λ (ps : List Plan). plan ≡ slice_index_or ps i plan) is at_plan)

-- the layout of an argument
pub plan-at : (arguments : List (String Global)) (plans seen : List Plan) (i : ℕ) (argument : NamedLayout) (plan : Plan) →
    slice_get (map layout_in (map string_bytes arguments)) i ≡ Some argument → length arguments ≡ length plans → seen ≡ plans →
    plan ≡ slice_index_or seen i plan → slice_get plans i ≡ Some plan
plan-at arguments plans seen i argument plan e same is at_plan =
    let w = got-within (map layout_in (map string_bytes arguments)) i argument e in
    let n = length-mapped layout_in (map string_bytes arguments) in
    let k = length-mapped string_bytes arguments in
    plan-there plans seen i plan (omega (arith, w, n, k, same)) is at_plan
