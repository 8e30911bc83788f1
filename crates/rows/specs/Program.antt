-- What the program does, said of any reader and any writer whose bytes are known.
use Rattle.std.specs.Prelude.{ℕ, List, replicate}
use Rattle.std.specs.Float.Ieee.{of_bits, binary64}
use Rattle.file.specs.File.{read_file}
use Rattle.regions.specs.Slices.{LentTables, tables_of}
use Rattle.table.specs.Method.{clipped_table}
use Rattle.reading.specs.Whole.{file_printed}

-- the tables that the program lends: 1,024 zeros in each slice
abbrev pub zero_tables : LentTables
zero_tables = tables_of (replicate 1024 0) (replicate 1024 (of_bits binary64 0)) (replicate 1024 0)
    (replicate 1024 (of_bits binary64 0))

-- what the program prints for the bytes of a plan file
abbrev pub printed : List ℕ → List ℕ
printed xs = file_printed clipped_table zero_tables (read_file xs)
