-- One law for each way through the functions of the code, over what their calls answered.

-- where a piece ends
pub mod PieceEnd
-- reading one piece
pub mod ReadPiece
-- the loop over the pieces
pub mod PieceLoop
-- the functions of src/file.rt around that loop
pub mod SalvageFile
