-- The pieces of a text as the code holds them.
use Rattle.std.specs.Prelude.{List}
use Rattle.sky_urlenc.specs.declared.pieces.Piece as held
use Rattle.sky_urlenc.specs.declared.pieces.Pieces.{Pieces}
use Rattle.sky_urlenc.specs.ReadRow.{Piece, pieces_from}

-- a piece of the code, as the definitions have it
abbrev pub piece_view : held.Piece → Piece
piece_view piece = record { start = piece.start; bytes = piece.bytes.now }

-- the pieces that are left
abbrev pub pieces_left : Pieces → List Piece
pieces_left it = pieces_from it.start it.rest.now
