-- The kinds of moves by their names (a format of this project).
use Rattle.std.specs.Prelude.{ℕ, Option, List, [], ◌∷◌, codes, map, slice_get, unwrap_or}
use Rattle.std.specs.List.{find, position}
use Rattle.std.specs.Str.{bytes_eq}
use Rattle.run_scripts.specs.declared.kind.Kind.{Kind}
use Rattle.run_scripts.specs.declared.kind.Kind.TheVariants.{Issue, Emit, Climb, Fall, Meet, Execute, Send, Launch, Slide, Access, Recover, Leave, Exit, Serve}

-- the first word of the lines of a kind
abbrev pub name_of : Kind → List ℕ
name_of Issue = codes "issue"
name_of Emit = codes "emit"
name_of Climb = codes "climb"
name_of Fall = codes "fall"
name_of Meet = codes "meet"
name_of Execute = codes "execute"
name_of Send = codes "send"
name_of Launch = codes "launch"
name_of Slide = codes "slide"
name_of Access = codes "access"
name_of Recover = codes "recover"
name_of Leave = codes "leave"
name_of Exit = codes "exit"
name_of Serve = codes "serve"

abbrev pub kinds : List Kind
kinds =
    Issue ∷ Emit ∷ Climb ∷ Fall ∷ Meet ∷ Execute ∷ Send
    ∷ Launch ∷ Slide ∷ Access ∷ Recover ∷ Leave ∷ Exit ∷ Serve ∷ []

-- the kind with this name
unfoldable pub kind_named : List ℕ → Option Kind
kind_named word = find (λ kind. bytes_eq (name_of kind) word) kinds

-- the index of that kind among all
unfoldable pub place_named : List ℕ → Option ℕ
place_named word = position (λ kind. bytes_eq (name_of kind) word) kinds

-- the names of all kinds, in their order
unfoldable pub names : List (List ℕ)
names = map name_of kinds

-- the name of the kind at an index among all
unfoldable pub name_at : ℕ → List ℕ
name_at place = unwrap_or (slice_get names place) []
