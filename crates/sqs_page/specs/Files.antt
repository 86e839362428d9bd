-- Script files as a page hands them over.
use Rattle.std.specs.Prelude.{List, flat_map, length, map, ℕ, ◌++◌, ◌≡◌}
use Rattle.sqs_formats.specs.Actors.{Files}
use Rattle.sqs_page.specs.declared.files.FileLengths.{FileLengths}

-- the lengths of a file's name and of the file
abbrev pub lengths_of : List ℕ × List ℕ → FileLengths
lengths_of f = record { name = length f.0; file = length f.1 }

-- the bytes of these files, each behind its name, and their lengths
pub record AreFiles (bytes : List ℕ) (lengths : List FileLengths) (files : Files) : Type 0 where
  pub bytes_are : bytes ≡ flat_map (λ f. f.0 ++ f.1) files
  pub lengths_are : lengths ≡ map lengths_of files

-- the bytes and the lengths of some files, of which this holds
pub record ForFiles (bytes : List ℕ) (lengths : List FileLengths) (Holds : Files → Type 0) : Type 0 where
  pub files : Files
  pub are : AreFiles bytes lengths files
  pub holds : Holds files
