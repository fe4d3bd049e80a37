-- A peer that sends its octets in pieces, in lines of a script.
pub mod ApartWorlds
pub mod OtherLines
pub mod GonePeers
pub mod PieceLines
pub mod SentPieces
pub mod OneText
pub mod WorkedPieces
pub mod Placing
