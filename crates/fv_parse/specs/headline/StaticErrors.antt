-- What refuses a program that is spelled: static errors (this project's profile).
use Rattle.std.specs.Prelude.{ℕ, Bool, true, false, ◌&&◌, ◌||◌, nat_eq, nat_lt, nat_le, List, [], ◌∷◌, ◌++◌, map, Option, Some, None, if◌then◌else◌}
use Rattle.std.specs.Option.{option_or}
use Rattle.std.specs.Str.{bytes_eq}
use Rattle.fv_lex.specs.headline.Token.{Lexed}
use Rattle.fv_parse.specs.declared.definitions.Defined.{Defined}
use Rattle.fv_parse.specs.declared.clash.StaticError.{StaticError}
use Rattle.fv_parse.specs.declared.clash.ErrorKind.{ErrorKind}
use Rattle.fv_parse.specs.declared.clash.ErrorKind.TheVariants.{Redefined, Repeated, Widths}
use Rattle.fv_parse.specs.declared.clash.Among.{Among}
use Rattle.fv_parse.specs.declared.clash.Among.TheVariants as among
use Rattle.fv_parse.specs.declared.refusal.ParseRefusal.{ParseRefusal}
use Rattle.fv_parse.specs.declared.refusal.ParseRefusal.TheVariants as refusals
use Rattle.fv_parse_grammar.specs.headline.Tree.{Tree, Group, Abstraction, Case, Iteration, Ports, Slider, Panel}
use Rattle.fv_parse_grammar.specs.headline.Tree.{Delayed, Apply, Binary, Where, Rule, Constant, Function, More}
use Rattle.fv_parse.specs.headline.Trees.{text_of, place_at}
use Rattle.fv_parse.specs.headline.Definitions.{definitions_of, as_name, names_in, has_process}

-- ---- the first of two

-- the order of errors at one token
abbrev pub kind_order : ErrorKind → ℕ
kind_order Redefined = 0
kind_order Repeated = 1
kind_order Widths = 2

-- at the lower token; at one token in the order of the kinds
abbrev pub comes_first : StaticError → StaticError → Bool
comes_first a b = nat_lt a.token b.token || (nat_eq a.token b.token && nat_le (kind_order a.kind) (kind_order b.kind))

-- the one of two errors that comes first
abbrev pub earlier : Option StaticError → Option StaticError → Option StaticError
earlier None b = b
earlier (Some a) None = Some a
earlier (Some a) (Some b) = if comes_first a b then Some a else Some b

-- ---- names that stand twice

-- the width of the first of these definitions that has this name
abbrev pub width_of : Lexed → List Defined → List ℕ → Option ℕ
width_of l [] name = None
width_of l (d ∷ ds) name = if bytes_eq (text_of l d.name) name then Some d.width else width_of l ds name

-- A definition after the first one of its name: where one of the two has no parameters, the name is redefined;
-- else both need equally many. Among parameters a name stands once.
abbrev pub clash : Among → Defined → ℕ → Option StaticError
clash among.Names d width = Some (record { token = d.name; kind = Repeated })
clash among.Definitions d width =
    if nat_eq d.width 0 then Some (record { token = d.name; kind = Redefined })
    else (if nat_eq width 0 then Some (record { token = d.name; kind = Redefined })
    else (if nat_eq width d.width then None else Some (record { token = d.name; kind = Widths })))

-- what refuses a definition by the width of the first one of its name, if there is one before it
abbrev pub clash_with : Among → Defined → Option ℕ → Option StaticError
clash_with kind d None = None
clash_with kind d (Some width) = clash kind d width

-- the first definition that clashes with an earlier one
abbrev pub first_clash : Among → Lexed → List Defined → List Defined → Option StaticError
first_clash kind l seen [] = None
first_clash kind l seen (d ∷ ds) = option_or (clash_with kind d (width_of l seen (text_of l d.name))) (first_clash kind l (seen ++ d ∷ []) ds)

-- the first rule that has another number of patterns than this
abbrev pub differing : ℕ → List Defined → Option StaticError
differing width [] = None
differing width (d ∷ ds) = if nat_eq d.width width then differing width ds else Some (record { token = d.name; kind = Widths })

-- the first rule that has another number of patterns than the first one
abbrev pub rule_widths : List Defined → Option StaticError
rule_widths [] = None
rule_widths (d ∷ ds) = differing d.width ds

-- ---- the first error of a tree

-- the first name that stands twice
abbrev pub repeated : Lexed → List Defined → Option StaticError
repeated l names = first_clash among.Names l [] names

-- the first definition of a list that clashes with an earlier one
abbrev pub redefined : Lexed → Tree → Option StaticError
redefined l ds = first_clash among.Definitions l [] (definitions_of l ds)

-- the first static error of a tree
abbrev pub error_of : Lexed → Tree → Option StaticError
error_of l (Group s x) = error_of l x
error_of l (Abstraction s ns x) = earlier (repeated l (map as_name ns)) (error_of l x)
error_of l (Case s rs) = earlier (rule_widths (definitions_of l rs)) (error_of l rs)
error_of l (Iteration s i n x y) = earlier (error_of l x) (error_of l y)
error_of l (Ports s k x) = error_of l x
error_of l (Slider s k n x0 x1 x2 x3) = earlier (error_of l x0) (earlier (error_of l x1) (earlier (error_of l x2) (error_of l x3)))
error_of l (Panel s k n x) = error_of l x
error_of l (Delayed s x) = error_of l x
error_of l (Apply s x y) = earlier (error_of l x) (error_of l y)
error_of l (Binary s o x y) = earlier (error_of l x) (error_of l y)
error_of l (Where s x ds) = earlier (error_of l x) (earlier (redefined l ds) (error_of l ds))
error_of l (Rule s ps x) = earlier (repeated l (names_in ps)) (error_of l x)
error_of l (Constant s n x) = error_of l x
error_of l (Function s n ps x) = earlier (repeated l (names_in ps)) (error_of l x)
error_of l (More x y) = earlier (error_of l x) (error_of l y)
error_of l x = None

-- the first static error of a whole program
abbrev pub program_error : Lexed → Tree → Option StaticError
program_error l x = earlier (redefined l x) (error_of l x)

-- ---- refusals

-- what refuses a program that has this error
abbrev pub error_refusal : Lexed → ErrorKind → ℕ → ParseRefusal
error_refusal l Redefined n = refusals.Redefined (text_of l n)
error_refusal l Repeated n = refusals.RepeatedName (text_of l n)
error_refusal l Widths n = refusals.RuleWidths (place_at l n).line (place_at l n).column

-- what refuses a program where the test fails
abbrev pub process_refusal : Bool → Option ParseRefusal
process_refusal true = None
process_refusal false = Some refusals.NoProcess

-- what an error refuses, and else the other
abbrev pub refusal_by : Lexed → Option StaticError → Option ParseRefusal → Option ParseRefusal
refusal_by l None other = other
refusal_by l (Some e) other = Some (error_refusal l e.kind e.token)

-- what refuses a program that is spelled: its first static error, and then that it has no `process`
abbrev pub refused : Lexed → Tree → Option ParseRefusal
refused l x = refusal_by l (program_error l x) (process_refusal (has_process l (definitions_of l x)))
