-- Where the rules find no fault in words, they stop at no subcommand `help`.
use Rattle.std.proofs.Common.{[], Bool, List, None, Option, Some, cond, false, refl, true, ℕ, ◌&&◌, ◌∷◌, ◌≡◌}
use Rattle.std.specs.Prelude.{codes, fold, is_some, not, ⊤}
use Rattle.std.specs.Str.{bytes_eq}
use Rattle.clap.specs.Faults.{other_fault, step_fault, turn_fault, walk_fault, word_fault}
use Rattle.clap.specs.Kinds.{or_else}
use Rattle.clap.specs.Lexer.{long_of, short_of}
use Rattle.clap.specs.Simple.{Shape}
use Rattle.clap.specs.Walk.{Held, Names, Outcome, Rule, Step, Text, Waiting, Walk, after_flag, after_step, arg_by_index, done, idle, long_or_other, next, option, plain, plain_word, positional, refused, short_or_plain, subcommand, subcommand_met, subcommand_or_other, to_positional, trailing, value, waits, walked, walked_from, word_met}
use Rattle.clap.specs.declared.error.kind.ErrorKind.TheVariants.{DisplayHelp, InvalidSubcommand}
use Rattle.sqs_command_line.proofs.Passed.{none_of}

-- what a walk stopped at is not `help`
abbrev pub IsNoHelp : Option (Text × List Text) → Type 0
IsNoHelp None = ⊤
IsNoHelp (Some p) = bytes_eq p.0 (codes "help") ≡ false

abbrev StepsOn : Step → Type 0
StepsOn (subcommand name) = bytes_eq name (codes "help") ≡ false
StepsOn step = ⊤

plain_on : (c : List Rule) (waiting : Waiting) (word : Text) (h : Held) → StepsOn (plain_word c waiting word h).1
plain_on c idle word h = tt
plain_on c positional word h = tt
plain_on c (option id) word h = tt

after_on : (c : List Rule) (waiting : Waiting) (word : Text) (h : Held) (o : Outcome) → StepsOn (after_flag c waiting word h o).1
after_on c waiting word h done = tt
after_on c waiting word h (waits id) = tt
after_on c waiting word h plain = plain_on c waiting word h
after_on c waiting word h refused = plain_on c waiting word h

short_on : (c : List Rule) (waiting : Waiting) (word : Text) (o : Option Text) (h : Held) → StepsOn (short_or_plain c waiting word o h).1
short_on c waiting word (Some flags) h = after_on c waiting word _ _
short_on c waiting word None h = plain_on c waiting word h

long_on : (c : List Rule) (waiting : Waiting) (word : Text) (o : Option (Text × Option Text)) (h : Held) → StepsOn (long_or_other c waiting word o h).1
long_on c waiting word (Some p) h = after_on c waiting word _ _
long_on c waiting word None h = short_on c waiting word (short_of word) h

module _ (s : Shape) (helps : s.disable_help_subcommand ≡ false) where
  word_on : (names : Names) (is_trailing : Bool) (waiting : Waiting) (position : ℕ) (word : Text) (h : Held)
      → word_fault s names is_trailing waiting word h ≡ [] → StepsOn (word_met s.rules names is_trailing waiting position word h).1
  word_on names true waiting position word h e = tt
  word_on names false waiting position word h e = go (subcommand_met names waiting word) e
    where
      no_help : (is off : Bool) → off ≡ false → cond (is && not off) (DisplayHelp ∷ InvalidSubcommand ∷ []) [] ≡ [] → is ≡ false
      no_help false off on e = refl
      no_help true true on e = cc
      no_help true false on e = cc

      other : (b : Bool) → StepsOn (cond b (h, trailing position) (long_or_other s.rules waiting word (long_of word) h)).1
      other true = tt
      other false = long_on s.rules waiting word (long_of word) h

      go : (o : Option Text) → other_fault s o word h ≡ [] → StepsOn (subcommand_or_other s.rules o waiting position word h).1
      go (Some name) e = no_help (bytes_eq name (codes "help")) s.disable_help_subcommand helps e
      go None e = other (bytes_eq word (45 ∷ 45 ∷ []))

  step_on : (w : Walk) (word : Text) (h : Held) (step : Step) → IsNoHelp w.stopped → StepsOn step → IsNoHelp (after_step s.rules word w h step).stopped
  step_on w word h (next waiting) before on = before
  step_on w word h (trailing position) before on = before
  step_on w word h (subcommand name) before on = on
  step_on w word h value before on = go (arg_by_index s.rules w.position)
    where
      go : (o : Option Rule) → IsNoHelp (to_positional s.rules o word w h).stopped
      go None = before
      go (Some a) = tt

  turn_on : (names : Names) (w : Walk) (word : Text) → IsNoHelp w.stopped → turn_fault s names w word ≡ [] → IsNoHelp (walked s.rules names w word).stopped
  unfolding walked
  turn_on names w word before e = go w.stopped before e
    where
      met : Held × Step
      met = word_met s.rules names w.is_trailing w.waiting w.position word w.held

      go : (o : Option (Text × List Text)) → IsNoHelp o → cond (is_some o) [] (or_else (word_fault s names w.is_trailing w.waiting word w.held) (step_fault s w.position met.0 met.1)) ≡ []
          → IsNoHelp (walked_from s.rules names o w word).stopped
      go (Some p) here e = here
      go None here e =
          let p = none_of (word_fault s names w.is_trailing w.waiting word w.held) (step_fault s w.position met.0 met.1) e in
          step_on w word met.0 met.1 before (word_on names w.is_trailing w.waiting w.position word w.held p.0)

  pub walk_on : (names : Names) (words : List Text) (w : Walk) → IsNoHelp w.stopped → walk_fault s names w words ≡ [] → IsNoHelp (fold (walked s.rules names) w words).stopped
  unfolding walk_fault
  walk_on names [] w before e = before
  walk_on names (word ∷ rest) w before e =
      let p = none_of (turn_fault s names w word) (walk_fault s names (walked s.rules names w word) rest) e in
      walk_on names rest (walked s.rules names w word) (turn_on names w word before p.0) p.1
