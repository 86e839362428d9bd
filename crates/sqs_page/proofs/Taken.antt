-- Files that were taken one after the other.
use Rattle.std.proofs.Common.{List, [], add-one, ap, append-nil, append_assoc, arith, get_or, length, length-append, map, refl, subst, sym, ℕ, ◌++◌, ◌+◌, ◌<◌, ◌≤◌, ◌∷◌, ◌≡◌, ◌∙◌}
use Rattle.std.specs.Prelude.{drop, flat_map}
use Rattle.std.proofs.Math.ListN.{drop_of_length-le}
use Rattle.std.proofs.Math.Seq.{drop-append_seam, drop-cons}
use Rattle.sqs_formats.specs.Actors.{Files}
use Rattle.sqs_page.specs.Files.{AreFiles, lengths_of}
use Rattle.sqs_page.specs.declared.files.FileLengths.{FileLengths}

-- these files were taken; what is left is that of all files of which there are some
pub record Taken (bytes : List ℕ) (lengths : List FileLengths) (files : Files) (left : List ℕ) (others : List FileLengths) : Type 0 where
  pub whole : (rest : Files) → AreFiles left others rest → AreFiles bytes lengths (files ++ rest)
  pub left_of : (all : Files) → AreFiles bytes lengths all → (rest : Files) × AreFiles left others rest

-- the bytes of files
abbrev pub bytes_of : Files → List ℕ
bytes_of files = flat_map (λ f. f.0 ++ f.1) files

-- none so far
pub taken_none : (bytes : List ℕ) (lengths : List FileLengths) → Taken bytes lengths [] bytes lengths
taken_none bytes lengths = record { whole = λ rest are. are; left_of = λ all are. (all, are) }

-- two lists that begin with as many
after_as_many : (xs ys us vs : List ℕ) → length xs ≡ length ys → xs ++ us ≡ ys ++ vs → us ≡ vs
after_as_many xs ys us vs e h =
    sym (drop-append_seam xs us) ∙ (ap (λ (l : List ℕ). drop (length xs) l) h ∙ (ap (λ (n : ℕ). drop n (ys ++ vs)) e ∙ drop-append_seam ys vs))

-- the files that are left, by the first of them
of_first : (left : List ℕ) (l : FileLengths) (others : List FileLengths) (rest : Files) → AreFiles left (l ∷ others) rest
    → (f : List ℕ × List ℕ) × ((more : Files) × ((l ≡ lengths_of f) × ((others ≡ map lengths_of more) × (left ≡ (f.0 ++ f.1) ++ bytes_of more))))
of_first left l others [] are = absurd (let e = are.lengths_are in cc)
of_first left l others (f ∷ more) are = (f, (more, (let e = are.lengths_are in cc, (let e = are.lengths_are in cc, are.bytes_are))))

-- the lengths of a file and of others
lengths_with : (name file : List ℕ) (l : FileLengths) (others : List FileLengths) (more : Files) → length name ≡ l.name → length file ≡ l.file
    → others ≡ map lengths_of more → l ∷ others ≡ map lengths_of ((name, file) ∷ more)
lengths_with name file l others more name_is file_is are =
    let l_is : l ≡ lengths_of (name, file) = rw (name_is, file_is) refl in
    ap (λ (x : FileLengths). x ∷ others) l_is ∙ ap (λ (ls : List FileLengths). lengths_of (name, file) ∷ ls) are

-- a name and a file of these lengths are as long as those of the file
same_lengths : (name file : List ℕ) (f : List ℕ × List ℕ) (l : FileLengths) → length name ≡ l.name → length file ≡ l.file → l ≡ lengths_of f
    → length (name ++ file) ≡ length (f.0 ++ f.1)
same_lengths name file f l name_is file_is are =
    length-append name file
    ∙ (ap (λ (n : ℕ). n + length file) (name_is ∙ ap (λ (x : FileLengths). x.name) are)
    ∙ (ap (λ (n : ℕ). length f.0 + n) (file_is ∙ ap (λ (x : FileLengths). x.file) are) ∙ sym (length-append f.0 f.1)))

-- a file and more are no shorter than the file
too_short : (left : List ℕ) (l : FileLengths) (f : List ℕ × List ℕ) (more : List ℕ) → l ≡ lengths_of f → left ≡ (f.0 ++ f.1) ++ more → length left < l.name + l.file → ⊥
too_short left l f more are is short =
    let both : length left ≡ (length f.0 + length f.1) + length more =
    ap length is ∙ (length-append (f.0 ++ f.1) more ∙ ap (λ (n : ℕ). n + length more) (length-append f.0 f.1)) in
    omega (arith, both, short, ap (λ (x : FileLengths). x.name) are, ap (λ (x : FileLengths). x.file) are)

-- no bytes
no_bytes : (left : List ℕ) → length left ≡ 0 → left ≡ []
no_bytes [] none = refl
no_bytes (b ∷ left) none = absurd (omega (arith, none))

-- one more was taken, whose lengths came first
pub taken_one : (bytes : List ℕ) (lengths : List FileLengths) (files : Files) (left name file rest : List ℕ) (l : FileLengths) (others : List FileLengths)
    → Taken bytes lengths files left (l ∷ others) → left ≡ name ++ (file ++ rest) → length name ≡ l.name → length file ≡ l.file
    → Taken bytes lengths (files ++ (name, file) ∷ []) rest others
taken_one bytes lengths files left name file rest l others taken parts name_is file_is =
    record {
      whole =
          λ more are. rw (append_assoc files ((name, file) ∷ []) more) (taken.whole ((name, file) ∷ more) (record {
            bytes_are = parts ∙ (sym (append_assoc name file rest) ∙ ap (λ (r : List ℕ). (name ++ file) ++ r) are.bytes_are);
            lengths_are = lengths_with name file l others more name_is file_is are.lengths_are;
          }));
      left_of =
          λ all are.
          let some = taken.left_of all are in
          let f = of_first left l others some.0 some.1 in (
            f.1.0,
            record {
              lengths_are = f.1.1.1.0;
              bytes_are =
                  after_as_many (name ++ file) (f.0.0 ++ f.0.1) rest (bytes_of f.1.0)
                  (same_lengths name file f.0 l name_is file_is f.1.1.0)
                  (append_assoc name file rest ∙ (sym parts ∙ f.1.1.1.1));
            },
          );
    }

-- all of them were taken, and nothing is left
pub taken_all : (bytes : List ℕ) (lengths : List FileLengths) (files : Files) → Taken bytes lengths files [] [] → AreFiles bytes lengths files
taken_all bytes lengths files taken =
    subst (λ (fs : Files). AreFiles bytes lengths fs) (append-nil files) (taken.whole [] (record { bytes_are = refl; lengths_are = refl }))

-- fewer bytes are left than the next file has
pub taken_short : (bytes : List ℕ) (lengths : List FileLengths) (files : Files) (left : List ℕ) (l : FileLengths) (others : List FileLengths)
    → Taken bytes lengths files left (l ∷ others) → length left < l.name + l.file → (all : Files) → ¬ AreFiles bytes lengths all
taken_short bytes lengths files left l others taken short all are =
    let some = taken.left_of all are in
    let f = of_first left l others some.0 some.1 in
    too_short left l f.0 (bytes_of f.1.0) f.1.1.0 f.1.1.1.1 short

-- the lengths that are left, from a place on
module _ (bytes : List ℕ) (lengths : List FileLengths) (files : Files) (left : List ℕ) (at : ℕ) (d : FileLengths) (taken : Taken bytes lengths files left (drop at lengths)) where
  -- of which the one there is the first
  abbrev next : FileLengths
  next = get_or lengths at d

  from_next : at < length lengths → Taken bytes lengths files left (next ∷ drop (at + 1) lengths)
  from_next within =
      subst (λ (ls : List FileLengths). Taken bytes lengths files left ls)
      (drop-cons lengths at d within ∙ ap (λ (n : ℕ). next ∷ drop n lengths) (sym (add-one at))) taken

  pub taken_next : (name file rest : List ℕ) → at < length lengths → left ≡ name ++ (file ++ rest) → length name ≡ next.name → length file ≡ next.file
      → Taken bytes lengths (files ++ (name, file) ∷ []) rest (drop (at + 1) lengths)
  taken_next name file rest within parts name_is file_is =
      taken_one bytes lengths files left name file rest next (drop (at + 1) lengths) (from_next within) parts name_is file_is

  pub next_short : at < length lengths → length left < next.name + next.file → (all : Files) → ¬ AreFiles bytes lengths all
  next_short within short = taken_short bytes lengths files left next (drop (at + 1) lengths) (from_next within) short

  pub all_taken : length lengths ≤ at → length left ≡ 0 → AreFiles bytes lengths files
  all_taken past none =
      taken_all bytes lengths files
      (subst (λ (b : List ℕ). Taken bytes lengths files b []) (no_bytes left none)
      (subst (λ (ls : List FileLengths). Taken bytes lengths files left ls) (drop_of_length-le lengths past) taken))
